use Rattle.std.proofs.Common.{◌≡◌, map}
use Rattle.std.specs.Prelude.{option_map}
use Rattle.std.specs.List.{range_with_len}
use Rattle.mn_edges.specs.Changes.{working}
use Rattle.mn_edges.specs.Start.{first_edge_or_none}
use Rattle.mn_edges.proofs.start.first_edges.Given as goal

abbrev pub invariant-loop-number : goal.invariant-loop-number
invariant-loop-number l = l.edges.items ≡ map (λ node. option_map working (first_edge_or_none l.topology node)) (range_with_len 0 l.number)
