use Rattle.std.proofs.Common.{ℕ, ◌≡◌, ◌+◌, ◌<◌, ◌++◌, map}
use Rattle.mn_wiring.specs.Wiring.{Wiring}
use Rattle.mn_way.specs.Switched.{IsOver, edge_at}
use Rattle.mn_way.specs.Way.{hops_within, links_on, link_numbered}
use Rattle.mn_way.proofs.ways.Ways.put_hops.Given as goal

-- what was pushed, and what is left, makes the whole
abbrev pub invariant-loop-passed : goal.invariant-loop-passed
invariant-loop-passed l = record {
  here : l.at.0 < l.self.nodes;
  left : (more : ℕ) → l._passed + more ≡ l.most → (wiring : Wiring) → IsOver wiring l.self
      → l.links.items ++ map link_numbered (links_on (hops_within wiring l.self.up (edge_at l.self l.edge) more l.at.0))
      ≡ l.fn.links.items ++ map link_numbered (links_on (hops_within wiring l.self.up (edge_at l.self l.edge) l.most l.fn.node.0));
}
