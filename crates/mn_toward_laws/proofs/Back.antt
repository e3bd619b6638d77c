-- Walks back, and what the tree of a node says of the ways to it.
use Rattle.std.proofs.Common.{ℕ, zero, suc, ◌≡◌, ◌≢◌, ◌+◌, ◌<◌, ◌≤◌, inl, inr, Bool, true, false, cond, List, [], ◌∷◌, ◌++◌, length, get_or, refl, arith, sym}
use Rattle.std.proofs.Common.{◌∙◌, ap}
use Rattle.std.proofs.Common.{subst, Option, None, Some}
use Rattle.std.specs.Prelude.{◌==◌, ◌&&◌, ◌||◌, nat_lt, if◌then◌else◌}
use Rattle.std.proofs.lemmas.Bool.Decides.{eqb_tells}
use Rattle.std.proofs.lemmas.List.FromFn.{length-map-range_with_len}
use Rattle.mn_base.proofs.Bools.{clash, and_parts, or_true}
use Rattle.mn_base.proofs.Rules.{some_is, none_is}
use Rattle.mn_wiring.specs.Wiring.{Wiring, View, JoinsNodes, is_up, is_end, link, across, links_at}
use Rattle.mn_wiring.specs.Paths.{IsLeast, IsDist, may_go, walk_end, cost_of, dist_in, dists_to, rounds, here, lesser, least_over, next, next_by}
use Rattle.mn_wiring.proofs.Dist.{dists_are_least}
use Rattle.mn_linkdb.specs.PathTable.{PathTable, dist_at}
use Rattle.mn_linkdb.specs.Trees.{IsTree}

-- 1. Over a link and back

same_test : (n : ℕ) → (n == n) ≡ true
same_test n = elim (eqb_tells n n) [ inl q ↦ q.0 | inr q ↦ absurd (q.1 refl) ]

-- the other end of an end is an end, and its other end is the first
there-and-back : (w : Wiring) (l n : ℕ) → is_end w l n ≡ true → (is_end w l (across w l n) ≡ true) × (across w l (across w l n) ≡ n)
there-and-back w l n e = elim (eqb_tells (link w l).a.0 n) [
  | inl p ↦
      let far : across w l n ≡ (link w l).b.0 = ap (λ b. if b then (link w l).b.0 else (link w l).a.0) p.0 in (
        ap (is_end w l) far ∙ ap (λ b. ((link w l).a.0 == (link w l).b.0) || b) (same_test (link w l).b.0) ∙ or_true ((link w l).a.0 == (link w l).b.0),
        ap (across w l) far ∙ back p.1,
      )
  | inr p ↦
      let far : across w l n ≡ (link w l).a.0 = ap (λ b. if b then (link w l).b.0 else (link w l).a.0) p.0 in
      let at_b : (link w l).b.0 ≡ n = other p.0 in (
        ap (is_end w l) far ∙ ap (λ b. b || ((link w l).b.0 == (link w l).a.0)) (same_test (link w l).a.0),
        ap (across w l) far ∙ ap (λ b. if b then (link w l).b.0 else (link w l).a.0) (same_test (link w l).a.0) ∙ at_b,
      )
]
  where
    back : (link w l).a.0 ≡ n → across w l (link w l).b.0 ≡ n
    back p = elim (eqb_tells (link w l).a.0 (link w l).b.0) [
      | inl q ↦ ap (λ b. if b then (link w l).b.0 else (link w l).a.0) q.0 ∙ sym q.1 ∙ p
      | inr q ↦ ap (λ b. if b then (link w l).b.0 else (link w l).a.0) q.0 ∙ p
    ]

    other : ((link w l).a.0 == n) ≡ false → (link w l).b.0 ≡ n
    other p = elim (eqb_tells (link w l).b.0 n) [
      | inl q ↦ q.1
      | inr q ↦ absurd (clash (sym e ∙ ap (λ b. b || ((link w l).b.0 == n)) p ∙ q.0))
    ]

-- so a walk may go back
may-go-back : (w : Wiring) (v : View) (n l : ℕ) → may_go w v n l ≡ true → (may_go w v (across w l n) l ≡ true) × (across w l (across w l n) ≡ n)
may-go-back w v n l h =
    let up = and_parts (is_up v l) (is_end w l n && nat_lt l (length w.ends)) h in
    let at = and_parts (is_end w l n) (nat_lt l (length w.ends)) up.1 in
    let far = there-and-back w l n at.0 in (
      ap (λ b. b && (is_end w l (across w l n) && nat_lt l (length w.ends))) up.0 ∙ ap (λ b. b && nat_lt l (length w.ends)) far.0 ∙ at.1,
      far.1,
    )

-- 2. Walks

no_node : (n : ℕ) → None ≡ Some n → ⊥
no_node n e = none_is n e

walk-on : (w : Wiring) (v : View) (ls ms : List ℕ) (a b : ℕ) → walk_end w v a ls ≡ Some b → walk_end w v a (ls ++ ms) ≡ walk_end w v b ms
walk-on w v [] ms a b h = ap (λ n. walk_end w v n ms) (some_is a b h)
walk-on w v (l ∷ ls) ms a b h = by (λ e. walk-on w v ls ms (across w l a) b e) (may_go w v a l) h
  where
    by : (walk_end w v (across w l a) ls ≡ Some b → walk_end w v (across w l a) (ls ++ ms) ≡ walk_end w v b ms) → (g : Bool)
        → cond g (walk_end w v (across w l a) ls) None ≡ Some b → cond g (walk_end w v (across w l a) (ls ++ ms)) None ≡ walk_end w v b ms
    by more true e = more e
    by more false e = absurd (no_node b e)

cost-on : (w : Wiring) (ls ms : List ℕ) → cost_of w (ls ++ ms) ≡ cost_of w ls + cost_of w ms
cost-on w [] ms = nothing_more (cost_of w ms)
  where
    nothing_more : (n : ℕ) → n ≡ 0 + n
    nothing_more n = omega arith
cost-on w (l ∷ ls) ms = ap (λ n. (link w l).cost + n) (cost-on w ls ms) ∙ moved (link w l).cost (cost_of w ls) (cost_of w ms)
  where
    moved : (a b c : ℕ) → a + (b + c) ≡ a + b + c
    moved a b c = omega arith

walk-back : (w : Wiring) (v : View) (ls : List ℕ) (a b : ℕ) → walk_end w v a ls ≡ Some b
    → (ms : List ℕ) × (walk_end w v b ms ≡ Some a) × (cost_of w ms ≡ cost_of w ls)
walk-back w v [] a b h = ([], ap (λ n. Some n) (sym (some_is a b h)), refl)
walk-back w v (l ∷ ls) a b h = by (λ e. walk-back w v ls (across w l a) b e) (may_go w v a l) refl h
  where
    turned : (x c y : ℕ) → x ≡ y → x + (c + 0) ≡ c + y
    turned x c y h = omega (arith, h)

    by : (walk_end w v (across w l a) ls ≡ Some b → (ms : List ℕ) × (walk_end w v b ms ≡ Some (across w l a)) × (cost_of w ms ≡ cost_of w ls)) → (g : Bool) →
        may_go w v a l ≡ g → cond g (walk_end w v (across w l a) ls) None ≡ Some b
        → (ms : List ℕ) × (walk_end w v b ms ≡ Some a) × (cost_of w ms ≡ (link w l).cost + cost_of w ls)
    by more false g e = absurd (no_node b e)
    by more true g e =
        let r = more e in
        let back = may-go-back w v a l g in (
          r.0 ++ l ∷ [],
          walk-on w v r.0 (l ∷ []) b (across w l a) r.1
              ∙ ap (λ x. cond x (Some (across w l (across w l a))) None) back.0 ∙ ap (λ n. Some n) back.1,
          cost-on w r.0 (l ∷ []) ∙ turned (cost_of w r.0) (link w l).cost (cost_of w ls) r.2,
        )

least-back : (w : Wiring) (v : View) (a b c : ℕ) → IsLeast w v a b c → IsLeast w v b a c
least-back w v a b c h =
    let r = walk-back w v h.walk.0 a b h.walk.1 in
    record {
      walk = (r.0, r.1, r.2 ∙ h.walk.2);
      least = λ ls g. let s = walk-back w v ls b a g in subst (λ n. c ≤ n) s.2 (h.least s.0 s.1);
    }

pub same_cost : (w : Wiring) (v : View) (a b : ℕ) (o : Option ℕ) → IsDist w v a b o → IsDist w v b a o
same_cost w v a b (Some c) h = least-back w v a b c h
same_cost w v a b None h = λ ls g. let r = walk-back w v ls b a g in h r.0 r.1

-- 3. One least cost

one-dist : (w : Wiring) (v : View) (a b : ℕ) (o q : Option ℕ) → IsDist w v a b o → IsDist w v a b q → o ≡ q
one-dist w v a b (Some c) (Some d) h g =
    ap (λ n. Some n) (both (subst (λ n. c ≤ n) g.walk.2 (h.least g.walk.0 g.walk.1)) (subst (λ n. d ≤ n) h.walk.2 (g.least h.walk.0 h.walk.1)))
  where
    both : {x y : ℕ} → x ≤ y → y ≤ x → x ≡ y
    both p q = omega (arith, p, q)
one-dist w v a b (Some c) None h g = absurd (g h.walk.0 h.walk.1)
one-dist w v a b None (Some d) h g = absurd (h g.walk.0 g.walk.1)
one-dist w v a b None None h g = refl

-- 4. The tree's costs are those that are computed for the ways to its root

rounds-length : (k : ℕ) (w : Wiring) (v : View) (to : ℕ) → length (rounds k w v to) ≡ length w.loopbacks
rounds-length zero w v to = length-map-range_with_len (here to) 0 (length w.loopbacks)
rounds-length (suc k) w v to =
    length-map-range_with_len (λ node. lesser (here to node) (least_over w v (rounds k w v to) node (links_at w node))) 0 (length w.loopbacks)

same-lists : (xs ys : List (Option ℕ)) → length xs ≡ length ys → ((i : ℕ) → i < length xs → get_or xs i None ≡ get_or ys i None) → xs ≡ ys
same-lists [] [] e h = refl
same-lists [] (y ∷ ys) e h = absurd (none e)
  where
    none : 0 ≡ suc (length ys) → ⊥
    none e = omega (arith, e)
same-lists (x ∷ xs) [] e h = absurd (none e)
  where
    none : suc (length xs) ≡ 0 → ⊥
    none e = omega (arith, e)
same-lists (x ∷ xs) (y ∷ ys) e h =
    ap (λ z. z ∷ xs) (h 0 (omega arith)) ∙ ap (λ zs. y ∷ zs) (same-lists xs ys (omega (arith, e)) (λ i l. h (suc i) (omega (arith, l))))

pub leads : (w : Wiring) (v : View) (root : ℕ) (table : PathTable) → JoinsNodes w → IsTree w v root table
    → (node : ℕ) → node < length w.loopbacks → node ≢ root → next w v node root ≡ next_by w v table.dists node
unfolding next
leads w v root table joins tree node below apart =
    ap (λ b. elim b as (λ _. Option (ℕ × ℕ)) [ true ↦ None | false ↦ next_by w v (dists_to w v root) node ]) (differ node root apart)
    ∙ ap (λ ds. next_by w v ds node) (sym same)
  where
    differ : (x y : ℕ) → x ≢ y → (x == y) ≡ false
    differ x y h = elim (eqb_tells x y) [ inl q ↦ absurd (h q.1) | inr q ↦ q.0 ]

    all : length table.dists ≡ length w.loopbacks
    all = tree.one_each.dists

    same : table.dists ≡ dists_to w v root
    same = same-lists table.dists (dists_to w v root) (all ∙ sym (rounds-length (length w.loopbacks) w v root))
        (λ i l. one-dist w v root i (dist_at table i) (dist_in (dists_to w v root) i) (tree.dists i (within i l))
        (same_cost w v i root (dist_in (dists_to w v root) i) (dists_are_least w v root joins i (within i l))))
      where
        within : (i : ℕ) → i < length table.dists → i < length w.loopbacks
        within i l = subst (λ n. i < n) all l
