use Rattle.std.proofs.Common.{◌∷◌, [], map}
use Rattle.std.specs.List.{range_with_len}
use Rattle.mn_edge.specs.Written.{texts}
use Rattle.mn_output_laws.specs.Files.{Frames, file_name}
use Rattle.mn_files.proofs.Texts.{pushed, grown, frames-more}
use Rattle.mn_files.proofs.names.push_frames.Goals as goal

pub loop-number-preserved : goal.loop-number-preserved
loop-number-preserved c =
    grown (file_name c.args.folder.now c.args.topology.now) (texts c.args.names.now.items) (texts c.loop-number.names.items) (texts c.push.new.self.items)
    (map (λ k. Frames k) (range_with_len 0 c.loop-number.number)) (Frames c.loop-number.number ∷ []) _
    c.loop-number.invariant
    (pushed c.loop-number.names.items c.push.new.self.items c.in_ok-link_name.field-0
    (file_name c.args.folder.now c.args.topology.now (Frames c.loop-number.number)) c.in_ok-push.ensures.items c.in_ok-link_name.ensures)
    (frames-more c.loop-number.number)
