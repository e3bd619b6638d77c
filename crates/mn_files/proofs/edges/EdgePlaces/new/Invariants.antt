use Rattle.std.proofs.Common.{◌≡◌, ◌≤◌, map}
use Rattle.std.specs.List.{range_with_len}
use Rattle.mn_files.specs.Numbers.{edges_before}
use Rattle.mn_files.proofs.edges.EdgePlaces.new.Given as goal

abbrev pub invariant-loop-node : goal.invariant-loop-node
invariant-loop-node l =
    (l.before.items ≡ map (edges_before l.topology) (range_with_len 0 l.node)) × (l.count ≡ edges_before l.topology l.node) × (l.count ≤ l.node)
