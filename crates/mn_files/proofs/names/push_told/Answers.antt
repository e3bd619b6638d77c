use Rattle.std.proofs.Common.{◌++◌, map, ap, sym, ◌∙◌, Vec, String, Global}
use Rattle.std.specs.List.{flat_map}
use Rattle.mn_edge.specs.Written.{texts}
use Rattle.mn_output_laws.specs.Files.{file_name, told_files}
use Rattle.mn_files.proofs.Texts.{edges_below, grown, told-more, told-same}
use Rattle.mn_files.proofs.names.push_told.Goals as goal
use Rattle.mn_files.proofs.names.push_told.Goals.{then-is_edge+in_ok-push_told_by, else-is_edge}

pub loop-number-preserved : goal.loop-number-preserved
loop-number-preserved c =
    elim c.if-is_edge.branch [
      | then-is_edge+in_ok-push_told_by w ↦
          grown (file_name c.args.folder.now c.args.topology.now) (texts c.args.names.now.items) (texts c.loop-number.names.items)
          (texts c.if-is_edge.names.items)
          (flat_map (told_files c.args.topology.now) (edges_below c.args.topology.now c.loop-number.number))
          (told_files c.args.topology.now c.loop-number.number) _
          c.loop-number.invariant
          (ap (λ (ns : Vec (String Global) Global). texts ns.items) w.names-is ∙ w.in_ok-push_told_by.ensures)
          (told-more c.args.topology.now c.loop-number.number (sym c.is_edge.ensures ∙ w.if-is_edge.true))
      | else-is_edge w ↦
          ap (λ (ns : Vec (String Global) Global). texts ns.items) w.names-is ∙ c.loop-number.invariant
          ∙ ap (λ files. texts c.args.names.now.items ++ map (file_name c.args.folder.now c.args.topology.now) files)
          (sym (told-same c.args.topology.now c.loop-number.number (sym c.is_edge.ensures ∙ w.if-is_edge.false)))
    ]
