use Rattle.std.proofs.Common.{◌≡◌, ◌∙◌, ap, sym, arith, Some, None, true, false, cond, get_or, slice_index_or}
use Rattle.std.proofs.lemmas.Grind.{common_steps}
use Rattle.mn_bindings.proofs.Rows.{label_at}
use Rattle.mn_bindings.proofs.row.Row.label.Goals as goal
use Rattle.mn_bindings.proofs.row.Row.label.Goals.{else-at-len-via-then-at-len+else-index, else-at-len-via-else-at-len}

pub returns-then-index : goal.returns-then-index
returns-then-index c =
    let said = c.self.inside.said.value in
    let flag : get_or said.mapped.items c.args.fec.0 false ≡ true = grind (arith, common_steps) in
    let label : get_or said.labels.items c.args.fec.0 0 ≡ c.index-then-index.result.now = grind (arith, common_steps) in
    sym
    (ap (λ row. slice_index_or row c.args.fec.0 None) (sym c.self.view_is)
    ∙ label_at said.mapped.items said.labels.items c.args.fec.0 c.self.invariant
    ∙ ap (λ b. cond b (Some (get_or said.labels.items c.args.fec.0 0)) None) flag
    ∙ ap Some label)

pub returns-else-at-len : goal.returns-else-at-len
returns-else-at-len c =
    let said = c.self.inside.said.value in
    let flag : get_or said.mapped.items c.args.fec.0 false ≡ false = elim c.else-at-len.branch [
      | else-at-len-via-then-at-len+else-index w ↦ grind (arith, common_steps)
      | else-at-len-via-else-at-len w ↦ grind (arith, common_steps)
    ] in
    sym
    (ap (λ row. slice_index_or row c.args.fec.0 None) (sym c.self.view_is)
    ∙ label_at said.mapped.items said.labels.items c.args.fec.0 c.self.invariant
    ∙ ap (λ b. cond b (Some (get_or said.labels.items c.args.fec.0 0)) None) flag)
