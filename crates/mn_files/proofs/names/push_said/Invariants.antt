use Rattle.std.proofs.Common.{◌≡◌, ◌++◌, ◌∷◌, [], map}
use Rattle.std.specs.List.{flat_map, range_with_len}
use Rattle.mn_wiring.specs.declared.links.Dir.TheVariants.{Forth, Back}
use Rattle.mn_edge.specs.Written.{texts}
use Rattle.mn_output_laws.specs.Files.{Said, file_name}
use Rattle.mn_files.proofs.names.push_said.Given as goal

abbrev pub invariant-loop-number : goal.invariant-loop-number
invariant-loop-number l =
    texts l.names.items ≡ texts l.fn.names.items ++ map (file_name l.folder l.topology)
    (flat_map (λ k. Said k Forth ∷ Said k Back ∷ []) (range_with_len 0 l.number))
