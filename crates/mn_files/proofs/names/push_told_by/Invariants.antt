use Rattle.std.proofs.Common.{◌≡◌, ◌++◌, map}
use Rattle.mn_edge.specs.Written.{texts}
use Rattle.mn_output_laws.specs.Files.{file_name}
use Rattle.mn_files.proofs.Texts.{told_below}
use Rattle.mn_files.proofs.names.push_told_by.Given as goal

abbrev pub invariant-loop-number : goal.invariant-loop-number
invariant-loop-number l = texts l.names.items ≡ texts l.fn.names.items ++ map (file_name l.folder l.topology) (told_below l.topology l.edge.0 l.number)
