use Rattle.std.proofs.Common.{◌∷◌, []}
use Rattle.std.specs.List.{flat_map, range_with_len}
use Rattle.mn_wiring.specs.declared.links.Dir.TheVariants.{Forth, Back}
use Rattle.mn_edge.specs.Written.{texts}
use Rattle.mn_output_laws.specs.Files.{Said, file_name}
use Rattle.mn_files.proofs.Texts.{pushed_twice, grown, said-more}
use Rattle.mn_files.proofs.names.push_said.Goals as goal

pub loop-number-preserved : goal.loop-number-preserved
loop-number-preserved c =
    grown (file_name c.args.folder.now c.args.topology.now) (texts c.args.names.now.items) (texts c.loop-number.names.items)
    (texts c.push-in-loop-number.new.self.items)
    (flat_map (λ k. Said k Forth ∷ Said k Back ∷ []) (range_with_len 0 c.loop-number.number))
    (Said c.loop-number.number Forth ∷ Said c.loop-number.number Back ∷ []) _
    c.loop-number.invariant
    (pushed_twice c.loop-number.names.items c.push.new.self.items c.push-in-loop-number.new.self.items c.in_ok-link_name.field-0 c.in_ok-link_name-2.field-0
    (file_name c.args.folder.now c.args.topology.now (Said c.loop-number.number Forth))
    (file_name c.args.folder.now c.args.topology.now (Said c.loop-number.number Back))
    c.in_ok-push.ensures.items c.in_ok-push-2.ensures.items c.in_ok-link_name.ensures c.in_ok-link_name-2.ensures)
    (said-more c.loop-number.number)
