use Rattle.std.proofs.Common.{◌++◌, ◌∷◌, [], map, ap, sym, ◌∙◌, Vec, String, Global}
use Rattle.mn_edge.specs.Written.{texts}
use Rattle.mn_output_laws.specs.Files.{Told, file_name}
use Rattle.mn_files.proofs.Texts.{told_below, pushed, grown, told_to, not_told}
use Rattle.mn_files.proofs.names.push_told_by.Goals as goal
use Rattle.mn_files.proofs.names.push_told_by.Goals.{then-is_told+in_ok-pair_name+in_ok-push, else-is_told}

pub loop-number-preserved : goal.loop-number-preserved
loop-number-preserved c =
    elim c.if-is_told.branch [
      | then-is_told+in_ok-pair_name+in_ok-push w ↦
          grown (file_name c.args.folder.now c.args.topology.now) (texts c.args.names.now.items) (texts c.loop-number.names.items)
          (texts c.if-is_told.names.items)
          (told_below c.args.topology.now c.args.edge.0 c.loop-number.number) (Told c.args.edge.0 c.loop-number.number ∷ []) _
          c.loop-number.invariant
          (ap (λ (ns : Vec (String Global) Global). texts ns.items) w.names-is
          ∙ pushed c.loop-number.names.items w.push.new.self.items w.in_ok-pair_name.field-0
          (file_name c.args.folder.now c.args.topology.now (Told c.args.edge.0 c.loop-number.number)) w.in_ok-push.ensures.items
          w.in_ok-pair_name.ensures)
          (told_to c.args.topology.now c.args.edge.0 c.loop-number.number (sym c.is_told.ensures ∙ w.if-is_told.true))
      | else-is_told w ↦
          ap (λ (ns : Vec (String Global) Global). texts ns.items) w.names-is ∙ c.loop-number.invariant
          ∙ ap (λ files. texts c.args.names.now.items ++ map (file_name c.args.folder.now c.args.topology.now) files)
          (sym (not_told c.args.topology.now c.args.edge.0 c.loop-number.number (sym c.is_told.ensures ∙ w.if-is_told.false)))
    ]
