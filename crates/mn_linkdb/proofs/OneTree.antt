-- A least cost and a next hop are determined by what they mean.
use Rattle.std.proofs.Common.{ℕ, subst, ◌≡◌, ◌≢◌, ◌<◌, ◌≤◌, ◌==◌, Bool, true, false, List, length, get_or, refl, sym, ◌∙◌, ap, arith, inl, inr}
use Rattle.std.specs.Prelude.{Option, Some, None}
use Rattle.std.proofs.lemmas.Bool.Decides.{eqb_tells}
use Rattle.std.proofs.lemmas.List.{same_lists, get_or_default}
use Rattle.std.proofs.lemmas.List.FromFn.{get_or-map-range_with_len, length-map-range_with_len}
use Rattle.mn_base.specs.declared.numbers.NodeNo.{NodeNo}
use Rattle.mn_wiring.specs.Wiring.{Wiring, View}
use Rattle.mn_wiring.specs.Paths.{IsDist, IsNext, dist_in, dists_to, next}
use Rattle.mn_linkdb.specs.PathTable.{PathTable, dist_at, next_at}
use Rattle.mn_linkdb.specs.Trees.{IsTree, IsNextHop, hop_alone, computed_tree}

same_number : (m n : ℕ) → m ≤ n → n ≤ m → m ≡ n
same_number m n p q = omega (arith, p, q)

le_cost : (m n k : ℕ) → m ≤ n → n ≡ k → m ≤ k
le_cost m n k p e = omega (arith, p, e)

-- lists with the same entries are the same
same_by_entries : {X : Type 0} (xs ys : List X) (d : X) → length xs ≡ length ys → ((k : ℕ) → k < length xs → get_or xs k d ≡ get_or ys k d) → xs ≡ ys
same_by_entries xs ys d e h =
    same_lists xs ys e (λ k f p. get_or_default xs k f d p ∙ h k p ∙ get_or_default ys k d f (omega (arith, e, p)))

same_table : (a b : PathTable) → a.dists ≡ b.dists → a.nexts ≡ b.nexts → a ≡ b
same_table a b e f =
    ap (λ (ds : List (Option ℕ)). let t : PathTable = record { dists = ds; nexts = a.nexts } in
    t) e ∙ ap (λ (ns : List (Option NodeNo)). let t : PathTable = record { dists = b.dists; nexts = ns } in t) f

within : {X : Type 0} (xs : List X) (k : ℕ) {n : ℕ} → length xs ≡ n → k < length xs → k < n
within xs k e p = omega (arith, e, p)

module _ (wiring : Wiring) (view : View) (from to : ℕ) where
  pub one_dist : (a b : Option ℕ) → IsDist wiring view from to a → IsDist wiring view from to b → a ≡ b
  one_dist None None h k = refl
  one_dist (Some m) None h k = absurd (k h.walk.0 h.walk.1)
  one_dist None (Some n) h k = absurd (h k.walk.0 k.walk.1)
  one_dist (Some m) (Some n) h k =
      ap (λ (d : ℕ). let o : Option ℕ = Some d in
      o) (same_number m n (le_cost _ _ _ (h.least k.walk.0 k.walk.1) k.walk.2) (le_cost _ _ _ (k.least h.walk.0 h.walk.1) h.walk.2))

  abbrev node : ℕ → Option NodeNo
  node n = Some (record { 0 = n })

  one_next : (a : Option NodeNo) (b : Option (ℕ × ℕ)) → IsNextHop wiring view from to a → IsNext wiring view from to b → a ≡ hop_alone b
  one_next None None h k = refl
  one_next (Some m) None h k = absurd (k h.1.1.whole.walk.0 h.1.1.whole.walk.1)
  one_next None (Some n) h k = absurd (h k.1.whole.walk.0 k.1.whole.walk.1)
  one_next (Some m) (Some n) h k =
      ap node (same_number m.0 n.0 (le_cost _ _ _ (h.1.2 n.1 k.1) (sym k.0)) (le_cost _ _ _ (k.2 h.0 h.1.1) (sym h.1.0)))

  same_next : (a b : Option NodeNo) → IsNextHop wiring view from to a → IsNextHop wiring view from to b → a ≡ b
  same_next a None h k = one_next a None h k
  same_next a (Some n) h k = one_next a (Some (n.0, k.0)) h k.1

module _ (wiring : Wiring) (view : View) (root : ℕ) where
  no_next : (at_root : Bool) (hop : Option (ℕ × ℕ)) → at_root ≡ true → elim at_root as (λ x. Option (ℕ × ℕ)) [ true ↦ None | false ↦ hop ] ≡ None
  no_next true hop e = refl
  no_next false hop e = cc

  no_next_here : (to : ℕ) → to ≡ root → next wiring view root to ≡ None
  unfolding next
  no_next_here to e = no_next (root == to) _ (elim (eqb_tells root to) [ inl q ↦ q.0 | inr q ↦ absurd (q.1 (sym e)) ])

  -- given that the computed costs and next hops are what they are to be
  module _ (here : root < length wiring.loopbacks) (dist_is : (to : ℕ) → IsDist wiring view root to (dist_in (dists_to wiring view to) root))
      (next_is : (to : ℕ) → root ≢ to → IsNext wiring view root to (next wiring view root to)) where
    next_alone : (to : ℕ) (hop : Option (ℕ × ℕ)) → IsNext wiring view root to hop → IsNextHop wiring view root to (hop_alone hop)
    next_alone to None h = h
    next_alone to (Some hop) h = (hop.1, h)

    dist_of : (to : ℕ) → to < length wiring.loopbacks → dist_at (computed_tree wiring view root) to ≡ dist_in (dists_to wiring view to) root
    dist_of to p = get_or-map-range_with_len (λ to. dist_in (dists_to wiring view to) root) 0 (length wiring.loopbacks) to to None p (omega arith)

    next_of : (to : ℕ) → to < length wiring.loopbacks → next_at (computed_tree wiring view root) to ≡ hop_alone (next wiring view root to)
    next_of to p = get_or-map-range_with_len (λ to. hop_alone (next wiring view root to)) 0 (length wiring.loopbacks) to to None p (omega arith)

    pub computed : IsTree wiring view root (computed_tree wiring view root)
    computed =
        record {
          one_each = record {
            dists = length-map-range_with_len (λ to. dist_in (dists_to wiring view to) root) 0 (length wiring.loopbacks);
            nexts =
                length-map-range_with_len (λ to. hop_alone (next wiring view root to)) 0 (length wiring.loopbacks);
          };
          dists = λ to p. subst (IsDist wiring view root to) (sym (dist_of to p)) (dist_is to);
          nexts = λ to p q. subst (IsNextHop wiring view root to) (sym (next_of to p)) (next_alone to (next wiring view root to) (next_is to (λ e. q (sym e))));
          root_itself = next_of root here ∙ ap hop_alone (no_next_here root refl);
        }

  same_at : (a b : PathTable) → IsTree wiring view root a → IsTree wiring view root b → (to : ℕ) → to < length wiring.loopbacks → next_at a to ≡ next_at b to
  same_at a b s t to p =
      elim (eqb_tells to root) [
        | inl e ↦ ap (next_at a) e.1 ∙ s.root_itself ∙ sym (ap (next_at b) e.1 ∙ t.root_itself)
        | inr e ↦ same_next wiring view root to _ _ (s.nexts to p e.1) (t.nexts to p e.1)
      ]

  pub one_tree : (a b : PathTable) → IsTree wiring view root a → IsTree wiring view root b → a ≡ b
  one_tree a b s t =
      same_table a b
      (same_by_entries a.dists b.dists None (s.one_each.dists ∙ sym t.one_each.dists)
      (λ to p. one_dist wiring view root to _ _ (s.dists to (within a.dists to s.one_each.dists p))
      (t.dists to (within a.dists to s.one_each.dists p))))
      (same_by_entries a.nexts b.nexts None (s.one_each.nexts ∙ sym t.one_each.nexts) (λ to p. same_at a b s t to (within a.nexts to s.one_each.nexts p)))

  -- so a tree's entries are the computed ones
  module _ (here : root < length wiring.loopbacks) (dist_is : (to : ℕ) → IsDist wiring view root to (dist_in (dists_to wiring view to) root))
      (next_is : (to : ℕ) → root ≢ to → IsNext wiring view root to (next wiring view root to)) where
    pub dist_computed : (to : ℕ) (tree : PathTable) → IsTree wiring view root tree → to < length wiring.loopbacks →
        dist_at tree to ≡ dist_in (dists_to wiring view to) root
    dist_computed to tree t p =
        ap (λ (x : PathTable). dist_at x to) (one_tree tree (computed_tree wiring view root) t (computed here dist_is next_is))
        ∙ dist_of here dist_is next_is to p

    pub next_computed : (to : ℕ) (tree : PathTable) → IsTree wiring view root tree → to < length wiring.loopbacks →
        next_at tree to ≡ hop_alone (next wiring view root to)
    next_computed to tree t p =
        ap (λ (x : PathTable). next_at x to) (one_tree tree (computed_tree wiring view root) t (computed here dist_is next_is))
        ∙ next_of here dist_is next_is to p
