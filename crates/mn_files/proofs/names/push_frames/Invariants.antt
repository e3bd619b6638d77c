use Rattle.std.proofs.Common.{◌≡◌, ◌++◌, map}
use Rattle.std.specs.List.{range_with_len}
use Rattle.mn_edge.specs.Written.{texts}
use Rattle.mn_output_laws.specs.Files.{Frames, file_name}
use Rattle.mn_files.proofs.names.push_frames.Given as goal

abbrev pub invariant-loop-number : goal.invariant-loop-number
invariant-loop-number l = texts l.names.items ≡ texts l.fn.names.items ++ map (file_name l.folder l.topology) (map (λ k. Frames k) (range_with_len 0 l.number))
