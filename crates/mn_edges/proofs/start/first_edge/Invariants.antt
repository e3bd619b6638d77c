use Rattle.std.proofs.Common.{◌≡◌, ◌+◌}
use Rattle.mn_edges.specs.Changes.{working}
use Rattle.mn_edges.specs.Start.{sites_before, edge_below}
use Rattle.mn_edges.proofs.start.first_edge.Given as goal

abbrev pub invariant-loop-number : goal.invariant-loop-number
invariant-loop-number l = record {
  edge : l.pe ≡ working (edge_below l.topology l.node.0 l.number);
  label : l.label ≡ 16 + sites_before l.topology l.node.0 l.number;
}
