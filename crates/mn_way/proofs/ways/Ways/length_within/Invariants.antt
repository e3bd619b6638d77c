use Rattle.std.proofs.Common.{ℕ, ◌≡◌, ◌+◌, ◌<◌, length}
use Rattle.std.specs.Prelude.{option_map}
use Rattle.mn_wiring.specs.Wiring.{Wiring}
use Rattle.mn_way.specs.Switched.{IsOver, edge_at}
use Rattle.mn_way.specs.Way.{hops_within, labelled}
use Rattle.mn_way.proofs.Steps.{counted}
use Rattle.mn_way.proofs.ways.Ways.length_within.Given as goal

-- what was passed, and what is left, makes the whole
abbrev pub invariant-loop-passed : goal.invariant-loop-passed
invariant-loop-passed l = record {
  here : l.at.0 < l.self.nodes;
  count : l.length ≡ 1 + l._passed;
  left : (more : ℕ) → l._passed + more ≡ l.most → (wiring : Wiring) → IsOver wiring l.self
      → counted l.self.ldp l.length (hops_within wiring l.self.up (edge_at l.self l.edge) more l.at.0)
      ≡ option_map length (labelled l.self.ldp l.fn.node.0 (hops_within wiring l.self.up (edge_at l.self l.edge) l.most l.fn.node.0));
}
