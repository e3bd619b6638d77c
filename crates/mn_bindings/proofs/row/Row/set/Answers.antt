use Rattle.std.proofs.Common.{◌≡◌, ◌≤◌, ◌∙◌, ap, sym, subst, arith, length, None, Some, true, false, slice_set}
use Rattle.std.proofs.lemmas.Grind.{common_steps}
use Rattle.mn_bindings.specs.declared.row.Said.{Said}
use Rattle.mn_bindings.specs.Rows.{labels_of}
use Rattle.mn_bindings.proofs.Rows.{label_set, label_gone, label_past}
use Rattle.mn_bindings.proofs.row.Row.set.Goals as goal

pub returns-in-None : goal.returns-in-None
returns-in-None c =
    let said = c.self.inside.said.value in
    ap (λ (s : Said). labels_of (slice_set s.mapped.items c.args.fec.0 false) s.labels.items) c.deref_mut.ensures.value
    ∙ label_gone said.mapped.items said.labels.items c.args.fec.0
    ∙ ap (λ row. slice_set row c.args.fec.0 None) c.self.view_is
    ∙ ap (λ label. slice_set c.args.self.now c.args.fec.0 label) (sym c.in-None.is)

pub returns-in-Some : goal.returns-in-Some
returns-in-Some c =
    let said = c.self.inside.said.value in
    ap (λ (s : Said). labels_of s.mapped.items (slice_set s.labels.items c.args.fec.0 c.in-Some.label)) c.deref_mut-in-Some-2.ensures.value
    ∙ ap (λ (s : Said). labels_of (slice_set s.mapped.items c.args.fec.0 true) (slice_set s.labels.items c.args.fec.0 c.in-Some.label))
    c.deref_mut-in-Some.ensures.value
    ∙ label_set said.mapped.items said.labels.items c.args.fec.0 c.in-Some.label
    ∙ ap (λ row. slice_set row c.args.fec.0 (Some c.in-Some.label)) c.self.view_is
    ∙ ap (λ label. slice_set c.args.self.now c.args.fec.0 label) (sym c.in-Some.is)

pub returns-else-at-len : goal.returns-else-at-len
returns-else-at-len c =
    let said = c.self.inside.said.value in
    let past : length said.mapped.items ≤ c.args.fec.0 = grind (arith, common_steps) in
    subst (λ row. row ≡ slice_set row c.args.fec.0 c.args.label) c.self.view_is
    (label_past said.mapped.items said.labels.items c.args.fec.0 c.args.label past)
