use Rattle.std.proofs.Common.{◌≡◌, ◌++◌, map}
use Rattle.std.specs.List.{flat_map}
use Rattle.mn_edge.specs.Written.{texts}
use Rattle.mn_output_laws.specs.Files.{file_name, told_files}
use Rattle.mn_files.proofs.Texts.{edges_below}
use Rattle.mn_files.proofs.names.push_told.Given as goal

abbrev pub invariant-loop-number : goal.invariant-loop-number
invariant-loop-number l =
    texts l.names.items ≡ texts l.fn.names.items ++ map (file_name l.folder l.topology) (flat_map (told_files l.topology) (edges_below l.topology l.number))
