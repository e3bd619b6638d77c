use Rattle.std.proofs.Common.{◌≡◌}
use Rattle.mn_flood.proofs.Views.{AreCounted}
use Rattle.mn_flood.proofs.view.view_of.Given as goal

abbrev pub invariant-loop-number : goal.invariant-loop-number
invariant-loop-number l = record {
  nodes : l.view.nodes ≡ l.initial.view.nodes;
  ends : l.view.ends ≡ l.initial.view.ends;
  counted : AreCounted l.world.wiring l.world.world l.node.0 l.number l.view.counts;
  changed : l.db ≡ l.view.counts;
}
