-- The next hop is on a least walk, to a neighbour of least number.
use Rattle.std.proofs.Common.{ℕ, zero, suc, ◌≡◌, ◌≢◌, ◌+◌, ◌<◌, ◌≤◌, Bool, true, false, cond, List, [], ◌∷◌, length, refl, arith, sym, ◌∙◌, ap, inl, inr}
use Rattle.std.proofs.Common.{subst, eq-eqb}
use Rattle.std.specs.Prelude.{Option, Some, None, nat_lt, filter}
use Rattle.std.specs.List.{range_with_len}
use Rattle.std.proofs.lemmas.Bool.{eqb-true, and_parts, ltb-true}
use Rattle.std.proofs.lemmas.Bool.Decides.{eqb_tells, nat_tests}
use Rattle.std.proofs.lemmas.Option.{same_Some}
use Rattle.mn_wiring.specs.Wiring.{Wiring, View, is_up, link, across, is_end, links_of, links_at, JoinsNodes}
use Rattle.mn_wiring.specs.Paths.{may_go, walk_end, cost_of, IsLeast, IsDist, IsOnLeast, IsNext, plus, dist_in, dists_to, same_cost, is_on_least, nearer}
use Rattle.mn_wiring.specs.Paths.{nearest, next_by, next}
use Rattle.mn_base.proofs.Bools.{and_on}
use Rattle.mn_wiring.proofs.Dist.{IsIn, in_tail, in_head, cond_below, dists_are_least}

-- 1. Members of a list
in_filter : (test : ℕ → Bool) (x : ℕ) (xs : List ℕ) → IsIn x xs → test x ≡ true → IsIn x (filter test xs)
in_filter test x [] i h = i
in_filter test x (y ∷ ys) i h =
    elim i [
      | inl e ↦ in_head x y (test y) (filter test ys) e (ap test (sym e) ∙ h)
      | inr j ↦ in_tail x y (test y) (filter test ys) (in_filter test x ys j h)
    ]

split_in : (test : ℕ → Bool) (x y : ℕ) (b : Bool) (ys zs : List ℕ) → test y ≡ b → (IsIn x zs → (test x ≡ true) × IsIn x ys) → IsIn x (cond b (y ∷ zs) zs) →
    (test x ≡ true) × IsIn x (y ∷ ys)
split_in test x y true ys zs t f i = elim i [ inl e ↦ (ap test e ∙ t, inl e) | inr j ↦ ((f j).0, inr (f j).1) ]
split_in test x y false ys zs t f i = ((f i).0, inr (f i).1)

from_filter : (test : ℕ → Bool) (x : ℕ) (xs : List ℕ) → IsIn x (filter test xs) → (test x ≡ true) × IsIn x xs
from_filter test x [] i = absurd i
from_filter test x (y ∷ ys) i = split_in test x y (test y) ys (filter test ys) refl (from_filter test x ys) i

in_range : (a n x : ℕ) → a ≤ x → x < a + n → IsIn x (range_with_len a n)
in_range a zero x p q = omega (arith, p, q)
in_range a (suc n) x p q = elim (eqb_tells x a) [ inl e ↦ inl e.1 | inr e ↦ inr (in_range (a + 1) n x (omega (arith, p, e.1)) (omega (arith, q))) ]

from_range : (a n x : ℕ) → IsIn x (range_with_len a n) → x < a + n
from_range a zero x i = absurd i
from_range a (suc n) x i = elim i [ inl e ↦ omega (arith, e) | inr j ↦ omega (arith, from_range (a + 1) n x j) ]

-- 2. The nearest of some neighbours
abbrev IsNearest : Wiring → ℕ → List ℕ → Option (ℕ × ℕ) → Type 0
IsNearest net node xs None = (l : ℕ) → IsIn l xs → ⊥
IsNearest net node xs (Some hop) = (hop.0 ≡ across net hop.1 node) × IsIn hop.1 xs × ((l : ℕ) → IsIn l xs → hop.0 ≤ across net l node)

nearer_ok : (net : Wiring) (node x : ℕ) (xs : List ℕ) (o : Option (ℕ × ℕ)) → IsNearest net node xs o →
    IsNearest net node (x ∷ xs) (nearer (across net x node, x) o)
nearer_ok net node x xs None h = (refl, inl refl, λ l i. elim i [ inl e ↦ omega (arith, ap (λ n. across net n node) e) | inr j ↦ absurd (h l j) ])
nearer_ok net node x xs (Some hop) h = chosen (nat_lt hop.0 (across net x node)) refl
  where
    chosen : (b : Bool) → nat_lt hop.0 (across net x node) ≡ b → IsNearest net node (x ∷ xs) (Some (cond b hop (across net x node, x)))
    chosen true t =
        let less : hop.0 < across net x node = ltb-true _ _ t in
        (h.0, inr h.1, λ l i. elim i [ inl e ↦ omega (arith, less, ap (λ n. across net n node) e) | inr j ↦ h.2 l j ])
    chosen false t =
        let more : across net x node ≤ hop.0 = grind (arith, nat_tests, t) in
        (refl, inl refl, λ l i. elim i [ inl e ↦ omega (arith, ap (λ n. across net n node) e) | inr j ↦ omega (arith, more, h.2 l j) ])

nearest_ok : (net : Wiring) (node : ℕ) (xs : List ℕ) → IsNearest net node xs (nearest net node xs)
nearest_ok net node [] = λ l i. i
nearest_ok net node (x ∷ xs) = nearer_ok net node x xs (nearest net node xs) (nearest_ok net node xs)

-- 3. Least costs along a link
on_least : (a b : Option ℕ) (c : ℕ) → same_cost (plus c a) b ≡ true → (d : ℕ) × (a ≡ Some d) × (b ≡ Some (c + d))
on_least None b c h = cc
on_least (Some d) None c h = cc
on_least (Some d) (Some e) c h = (d, refl, ap (λ n. Some n) (sym (eqb-true _ _ h)))

same_on : (a b : Option ℕ) (c d : ℕ) → a ≡ Some d → b ≡ Some (c + d) → same_cost (plus c a) b ≡ true
same_on a b c d p q = rw (p, q) (eq-eqb (c + d) (c + d) refl)

gone : (to : ℕ) (b : Bool) (o : Option ℕ) → cond b o None ≡ Some to → (b ≡ true) × (o ≡ Some to)
gone to true o h = (refl, h)
gone to false o h = cc

module _ (net : Wiring) (view : View) (to : ℕ) (ok : JoinsNodes net) where
  abbrev dist : ℕ → Option ℕ
  dist x = dist_in (dists_to net view to) x

  across_below : (x l : ℕ) → l < length net.ends → across net l x < length net.loopbacks
  across_below x l h = cond_below _ _ _ _ (ok l h).1 (ok l h).0

  is_least : (x d : ℕ) → x < length net.loopbacks → dist x ≡ Some d → IsLeast net view x to d
  is_least x d h e = subst (IsDist net view x to) e (dists_are_least net view to ok x h)

  unique : (x d e : ℕ) → IsLeast net view x to d → IsLeast net view x to e → d ≡ e
  unique x d e h k = omega (arith, h.least k.walk.0 k.walk.1, k.least h.walk.0 h.walk.1, h.walk.2, k.walk.2)

  known : (x d : ℕ) (o : Option ℕ) → IsDist net view x to o → IsLeast net view x to d → o ≡ Some d
  known x d None h k = absurd (h k.walk.0 k.walk.1)
  known x d (Some e) h k = ap (λ n. Some n) (unique x e d h k)

  dist_is : (x d : ℕ) → x < length net.loopbacks → IsLeast net view x to d → dist x ≡ Some d
  dist_is x d h k = known x d (dist x) (dists_are_least net view to ok x h) k

  -- a link that passes the test is on a least walk
  sound : (x l : ℕ) → x < length net.loopbacks → l < length net.ends → is_end net l x ≡ true → is_on_least net view (dists_to net view to) x l ≡ true →
      IsOnLeast net view x to l
  sound x l hx hl e h =
      let p = and_parts (is_up view l) _ h in
      let s = on_least (dist (across net l x)) (dist x) (link net l).cost p.1 in
      record {
        there = hl;
        at_node = e;
        up = p.0;
        rest = s.0;
        after = is_least (across net l x) s.0 (across_below x l hl) s.1;
        whole =
            is_least x ((link net l).cost + s.0) hx s.2;
      }

  -- and one that is on a least walk passes
  complete : (x l : ℕ) → x < length net.loopbacks → IsOnLeast net view x to l → is_on_least net view (dists_to net view to) x l ≡ true
  complete x l hx h =
      and_on (is_up view l) _ h.up
      (same_on _ _ (link net l).cost h.rest (dist_is (across net l x) h.rest (across_below x l h.there) h.after)
      (dist_is x ((link net l).cost + h.rest) hx h.whole))

  -- the first link of a least walk is on one
  first_link : (x l : ℕ) (ls : List ℕ) (o : Option ℕ) → x < length net.loopbacks → walk_end net view x (l ∷ ls) ≡ Some to →
      ((ms : List ℕ) → walk_end net view x ms ≡ Some to → cost_of net (l ∷ ls) ≤ cost_of net ms) → IsDist net view (across net l x) to o →
      IsOnLeast net view x to l
  first_link x l ls None hx w least h = absurd (h ls (gone to _ _ w).1)
  first_link x l ls (Some d) hx w least h =
      let g : (may_go net view x l ≡ true) × (walk_end net view (across net l x) ls ≡ Some to) = gone to _ _ w in
      let u = and_parts (is_up view l) _ g.0 in
      let v = and_parts (is_end net l x) _ u.1 in
      let longer : cost_of net (l ∷ ls) ≤ (link net l).cost + cost_of net h.walk.0 = least (l ∷ h.walk.0) (rw g.0 h.walk.1) in
      let same : cost_of net (l ∷ ls) ≡ (link net l).cost + d = omega (arith, longer, h.walk.2, h.least ls g.1) in
      record {
        there = ltb-true _ _ v.1;
        at_node = v.0;
        up = u.0;
        rest = d;
        after = h;
        whole = record { walk = (l ∷ ls, w, same); least = λ ms k. omega (arith, same, least ms k) };
      }

  same_node : (x : ℕ) → ◌≡◌ {A = Option ℕ} (Some x) (Some to) → x ≡ to
  same_node x h = same_Some x to h

  -- from another node that reaches it a least walk goes over some link
  some_link : (x : ℕ) (ls : List ℕ) (o : Option ℕ) → x < length net.loopbacks → x ≢ to → walk_end net view x ls ≡ Some to → IsDist net view x to o →
      (l : ℕ) × IsOnLeast net view x to l
  some_link x ls None hx apart w h = absurd (h ls w)
  some_link x ls (Some d) hx apart w h = by_walk h.walk.0 h.walk.1 (λ ms k. omega (arith, h.walk.2, h.least ms k))
    where
      by_walk : (ks : List ℕ) → walk_end net view x ks ≡ Some to → ((ms : List ℕ) → walk_end net view x ms ≡ Some to → cost_of net ks ≤ cost_of net ms) →
          (l : ℕ) × IsOnLeast net view x to l
      by_walk [] e least = absurd (apart (same_node x e))
      by_walk (l ∷ ks) e least =
          let g : (may_go net view x l ≡ true) × (walk_end net view (across net l x) ks ≡ Some to) = gone to _ _ e in
          let inside : l < length net.ends = ltb-true _ _ (and_parts (is_end net l x) _ (and_parts (is_up view l) _ g.0).1).1 in
          (l, first_link x l ks (dist (across net l x)) hx e least (dists_are_least net view to ok (across net l x) (across_below x l inside)))

  candidates_in : (x l : ℕ) → x < length net.loopbacks → IsOnLeast net view x to l →
      IsIn l (filter (is_on_least net view (dists_to net view to) x) (links_at net x))
  candidates_in x l hx h =
      in_filter (is_on_least net view (dists_to net view to) x) l (links_at net x)
      (in_filter (λ m. is_end net m x) l (links_of net) (in_range 0 (length net.ends) l (omega arith) (omega (arith, h.there))) h.at_node)
      (complete x l hx h)

  candidate_is : (x l : ℕ) → x < length net.loopbacks → IsIn l (filter (is_on_least net view (dists_to net view to) x) (links_at net x)) →
      IsOnLeast net view x to l
  candidate_is x l hx i =
      let p = from_filter (is_on_least net view (dists_to net view to) x) l (links_at net x) i in
      let q = from_filter (λ m. is_end net m x) l (links_of net) p.1 in
      sound x l hx (omega (arith, from_range 0 (length net.ends) l q.1)) q.0 p.0

  chosen_ok : (x : ℕ) (o : Option (ℕ × ℕ)) → x < length net.loopbacks → x ≢ to →
      IsNearest net x (filter (is_on_least net view (dists_to net view to) x) (links_at net x)) o → IsNext net view x to o
  chosen_ok x None hx apart h = λ ls w.
      let s = some_link x ls (dist x) hx apart w (dists_are_least net view to ok x hx) in
      h s.0 (candidates_in x s.0 hx s.1)
  chosen_ok x (Some hop) hx apart h = (h.0, candidate_is x hop.1 hx h.1, λ l k. h.2 l (candidates_in x l hx k))

  pub next_is : (x : ℕ) → x < length net.loopbacks → x ≢ to → IsNext net view x to (next net view x to)
  unfolding next
  next_is x hx apart =
      elim (eqb_tells x to) [
        | inl e ↦ absurd (apart e.1)
        | inr e ↦ subst (λ b. IsNext net view x to (elim b [ true ↦ None | false ↦ next_by net view (dists_to net view to) x ])) (sym e.0)
            (chosen_ok x _ hx apart (nearest_ok net x (filter (is_on_least net view (dists_to net view to) x) (links_at net x))))
      ]
