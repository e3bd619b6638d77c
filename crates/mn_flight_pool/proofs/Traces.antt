-- A ring is what is met from its first node on.
use Rattle.std.proofs.Common.{ℕ, ◌≡◌, List, [], ◌∷◌, ◌++◌, length, refl, ap, ◌∙◌}
use Rattle.mn_flight_pool.specs.Rings.{AreNeighbours, IsRing, next_of, prev_of}
use Rattle.mn_flight_pool.specs.Pool.{trace}
use Rattle.mn_flight_pool.specs.Nodes.{Node}
use Rattle.mn_flight_pool.specs.declared.node.Pair.{Pair}

pub trace_path : (next prev : ℕ → ℕ) (a : ℕ) (ps : List ℕ) (z : ℕ) → AreNeighbours next prev (a ∷ ps) (ps ++ z ∷ []) → trace next a (length ps) ≡ ps
trace_path next prev a [] z h = refl
trace_path next prev a (p ∷ ps) z h =
    (λ i. h.0 i ∷ trace next (h.0 i) (length ps)) ∙ ap (λ l. p ∷ l) (trace_path next prev p ps z h.2)

module _ {T : Type 0} where
  pub trace_ring : (pair : Pair) (cells : List (Node T)) (s : ℕ) (ps : List ℕ) → IsRing pair cells s ps →
      trace (next_of pair cells) s (length ps) ≡ ps
  trace_ring pair cells s ps ring = trace_path (next_of pair cells) (prev_of pair cells) s ps s ring.round
