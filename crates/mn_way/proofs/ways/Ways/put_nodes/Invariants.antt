use Rattle.std.proofs.Common.{ℕ, ◌≡◌, ◌+◌, ◌<◌, ◌++◌, List, map}
use Rattle.std.specs.List.{list_all}
use Rattle.mn_base.specs.declared.numbers.NodeNo.{NodeNo}
use Rattle.mn_wiring.specs.Wiring.{Wiring}
use Rattle.mn_way.specs.Switched.{IsOver, edge_at}
use Rattle.mn_way.specs.Way.{Hop, has_ldp, hops_within, nodes_on, numbered}
use Rattle.mn_way.proofs.ways.Ways.put_nodes.Given as goal

-- what was pushed, and what is left, makes the whole; LDP is on on the links that were passed
abbrev pub invariant-loop-passed : goal.invariant-loop-passed
invariant-loop-passed l = record {
  here : l.at.0 < l.self.nodes;
  behind : (more : List NodeNo) × (l.path.items ≡ l.fn.path.items ++ more);
  on : (more : ℕ) → l._passed + more ≡ l.most → (wiring : Wiring) → IsOver wiring l.self
      → list_all (has_ldp l.self.ldp) (hops_within wiring l.self.up (edge_at l.self l.edge) more l.at.0)
      ≡ list_all (has_ldp l.self.ldp) (hops_within wiring l.self.up (edge_at l.self l.edge) l.most l.fn.node.0);
  left : (more : ℕ) → l._passed + more ≡ l.most → (wiring : Wiring) → IsOver wiring l.self
      → l.path.items ++ map numbered (map (λ (hop : Hop). hop.0) (hops_within wiring l.self.up (edge_at l.self l.edge) more l.at.0))
      ≡ l.fn.path.items ++ map numbered (nodes_on l.fn.node.0 (hops_within wiring l.self.up (edge_at l.self l.edge) l.most l.fn.node.0));
}
