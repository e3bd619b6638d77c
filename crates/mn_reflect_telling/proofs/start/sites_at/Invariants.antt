use Rattle.std.proofs.Common.{◌≡◌, ◌≤◌}
use Rattle.mn_edges.specs.Start.{sites_before}
use Rattle.mn_reflect_telling.proofs.start.sites_at.Given as goal

abbrev pub invariant-loop-number : goal.invariant-loop-number
invariant-loop-number l = record {
  count : l.count ≡ sites_before l.topology l.node.0 l.number;
  bound : l.count ≤ l.number;
}
