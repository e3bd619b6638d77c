use Rattle.std.proofs.Common.{◌≡◌, filter}
use Rattle.std.specs.List.{range_with_len}
use Rattle.mn_topo.specs.VrfTable.{is_edge}
use Rattle.mn_reach.specs.Plans.{numbers_of}
use Rattle.mn_reach.proofs.edges.edges_of.Given as goal

abbrev pub invariant-loop-number : goal.invariant-loop-number
invariant-loop-number l = numbers_of l.found.items ≡ filter (λ node. is_edge l.topology.vrfs node) (range_with_len 0 l.number)
