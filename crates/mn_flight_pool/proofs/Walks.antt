-- Steps along a ring.
use Rattle.std.proofs.Common.{◌≡◌, ◌<◌, ℕ, zero, suc, List, [], ◌∷◌, ◌++◌, length, Some, IsSome, inl, inr, refl, sym, ap, ◌∙◌, subst, arith, append_assoc}
use Rattle.std.proofs.Common.{length-append}
use Rattle.std.specs.Prelude.{slice_get}
use Rattle.mn_flight_pool.specs.Cells.{value_at}
use Rattle.mn_flight_pool.specs.Rings.{AreNeighbours, IsIn, IsRing, next_of, prev_of}
use Rattle.mn_flight_pool.specs.Pool.{trace, steps_of}
use Rattle.mn_flight_pool.specs.declared.node.Pair.{Pair}
use Rattle.mn_flight_pool.specs.Nodes.{Node}
use Rattle.mn_flight_pool.proofs.Neighbours.{neighbour}
use Rattle.mn_flight_pool.proofs.Rings.{ring_last, ring_sides}
use Rattle.mn_flight_pool.proofs.Traces.{trace_ring}
use Rattle.mn_flight_pool.proofs.Sooner.{in_cut, all_in}

-- a step more at the front is one more at the end
step_first : (next : ℕ → ℕ) (s : ℕ) (n : ℕ) → steps_of next (next s) n ≡ next (steps_of next s n)
step_first next s zero = refl
step_first next s (suc n) = ap next (step_first next s n)

trace_at : (next : ℕ → ℕ) (s : ℕ) (m n : ℕ) → n < m → slice_get (trace next s m) n ≡ Some (steps_of next s (suc n))
trace_at next s zero n h = absurd (omega (arith, h))
trace_at next s (suc m) zero h = refl
trace_at next s (suc m) (suc n) h = trace_at next (next s) m n (omega (arith, h)) ∙ ap (λ p. Some (next p)) (step_first next s n)

module _ {T : Type 0} (pair : Pair) (cells : List (Node T)) (s : ℕ) (ps : List ℕ) (ring : IsRing pair cells s ps) where
  pub ring_next : (x : ℕ) → IsIn x (s ∷ ps) → IsIn (next_of pair cells x) (s ∷ ps)
  ring_next x (inl e) = subst (λ y. IsIn (next_of pair cells y) (s ∷ ps)) (sym e) (first ps ring)
    where
      first : (qs : List ℕ) → IsRing pair cells s qs → IsIn (next_of pair cells s) (s ∷ qs)
      first [] r = inl r.round.0
      first (q ∷ qs) r = inr (inl r.round.0)
  ring_next x (inr j) =
      let cut = in_cut x ps j in
      subst (λ l. IsIn (next_of pair cells x) (s ∷ l)) (sym cut.2) (ring_sides pair cells s cut.0 x cut.1 (subst (λ l. IsRing pair cells s l) cut.2 ring)).1

  pub ring_prev : (x : ℕ) → IsIn x (s ∷ ps) → IsIn (prev_of pair cells x) (s ∷ ps)
  ring_prev x (inl e) = subst (λ y. IsIn (prev_of pair cells y) (s ∷ ps)) (sym e) (ring_last pair cells s ps ring).0
  ring_prev x (inr j) =
      let cut = in_cut x ps j in
      subst (λ l. IsIn (prev_of pair cells x) (s ∷ l)) (sym cut.2) (ring_sides pair cells s cut.0 x cut.1 (subst (λ l. IsRing pair cells s l) cut.2 ring)).0

  module _ (x : ℕ) (i : IsIn x (s ∷ ps)) where
    forth_in : (n : ℕ) → IsIn (steps_of (next_of pair cells) x n) (s ∷ ps)
    forth_in zero = i
    forth_in (suc n) = ring_next (steps_of (next_of pair cells) x n) (forth_in n)

    back_in : (n : ℕ) → IsIn (steps_of (prev_of pair cells) x n) (s ∷ ps)
    back_in zero = i
    back_in (suc n) = ring_prev (steps_of (prev_of pair cells) x n) (back_in n)

    -- each step comes to a node
    pub forth_there : (n : ℕ) (p : ℕ) → p ≡ steps_of (next_of pair cells) x n → IsSome (value_at p cells)
    forth_there n p e =
        subst (λ q. IsSome (value_at q cells)) (sym e)
        (all_in (λ q. IsSome (value_at q cells)) (s ∷ ps) (steps_of (next_of pair cells) x n) ring.there (forth_in n))

    pub back_there : (n : ℕ) (p : ℕ) → p ≡ steps_of (prev_of pair cells) x n → IsSome (value_at p cells)
    back_there n p e =
        subst (λ q. IsSome (value_at q cells)) (sym e)
        (all_in (λ q. IsSome (value_at q cells)) (s ∷ ps) (steps_of (prev_of pair cells) x n) ring.there (back_in n))

  -- so many steps forth come to the node at that place
  pub forth_at : (n : ℕ) → n < length ps → slice_get ps n ≡ Some (steps_of (next_of pair cells) s (suc n))
  forth_at n h = ap (λ l. slice_get l n) (sym (trace_ring pair cells s ps ring)) ∙ trace_at (next_of pair cells) s (length ps) n h

module _ {T : Type 0} (pair : Pair) (cells : List (Node T)) (s : ℕ) where
  -- and so many back to the one with as many behind it
  pub back_at : (vs us : List ℕ) (p : ℕ) → IsRing pair cells s (us ++ p ∷ vs) → steps_of (prev_of pair cells) s (suc (length vs)) ≡ p
  back_at [] us p ring =
      let e : length (s ∷ us) ≡ length (us ++ p ∷ []) = omega (arith, length-append us (p ∷ [])) in
      (neighbour (next_of pair cells) (prev_of pair cells) (s ∷ us) p [] (us ++ p ∷ []) s [] e ring.round).1
  back_at (v ∷ vs) us p ring =
      let moved : us ++ p ∷ v ∷ vs ≡ (us ++ p ∷ []) ++ v ∷ vs = sym (append_assoc us (p ∷ []) (v ∷ vs)) in
      let rest = back_at vs (us ++ p ∷ []) v (subst (λ l. IsRing pair cells s l) moved ring) in
      let sources : s ∷ (us ++ p ∷ v ∷ vs) ≡ (s ∷ us) ++ p ∷ v ∷ vs = refl in
      let targets : (us ++ p ∷ v ∷ vs) ++ s ∷ [] ≡ (us ++ p ∷ []) ++ v ∷ (vs ++ s ∷ []) =
      append_assoc us (p ∷ v ∷ vs) (s ∷ []) ∙ sym (append_assoc us (p ∷ []) (v ∷ (vs ++ s ∷ []))) in
      let e : length (s ∷ us) ≡ length (us ++ p ∷ []) = omega (arith, length-append us (p ∷ [])) in
      let round = subst (λ l. AreNeighbours (next_of pair cells) (prev_of pair cells) (s ∷ (us ++ p ∷ v ∷ vs)) l) targets ring.round in
      ap (prev_of pair cells) rest ∙ (neighbour (next_of pair cells) (prev_of pair cells) (s ∷ us) p (v ∷ vs) (us ++ p ∷ []) v (vs ++ s ∷ []) e round).1
