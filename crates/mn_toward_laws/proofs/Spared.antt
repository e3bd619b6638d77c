-- Where no next hop went over a link that is down now, a least walk is left, and no walk is new.
use Rattle.std.proofs.Common.{ℕ, zero, suc, ◌≡◌, ◌≢◌, ◌+◌, ◌<◌, ◌≤◌, inl, inr, Bool, true, false, cond, List, [], ◌∷◌, length, refl, arith, sym, ◌∙◌, ap}
use Rattle.std.proofs.Common.{subst, Option, None, Some}
use Rattle.std.specs.Prelude.{◌==◌, ◌&&◌, nat_lt}
use Rattle.std.proofs.lemmas.Bool.Decides.{eqb_tells}
use Rattle.mn_base.proofs.Bools.{and_parts, less_is}
use Rattle.mn_base.proofs.Rules.{none_is}
use Rattle.mn_base.proofs.Members.{In, filter_in, range_in}
use Rattle.mn_wiring.specs.Wiring.{Wiring, View, JoinsNodes, JoinsOnce, is_up, is_end, link, across, links_of, links_at, joining}
use Rattle.mn_wiring.specs.Paths.{IsLeast, IsDist, IsOnLeast, IsNext, may_go, walk_end, cost_of, dist_in, dists_to, next}
use Rattle.mn_wiring.proofs.Next.{next_is}
use Rattle.mn_wiring.proofs.Dist.{dists_are_least, cond_below}
use Rattle.mn_toward_laws.specs.Spared.{AllCost, HasNoMore, IsSpared, StaysAsItWas}

no_node : (n : ℕ) → None ≡ Some n → ⊥
no_node n e = none_is n e

same_number : {a b : ℕ} → a ≤ b → b ≤ a → a ≡ b
same_number h g = omega (arith, h, g)

one-least : (w : Wiring) (v : View) (a b c d : ℕ) → IsLeast w v a b c → IsLeast w v a b d → c ≡ d
one-least w v a b c d h g =
    same_number (subst (λ n. c ≤ n) g.walk.2 (h.least g.walk.0 g.walk.1)) (subst (λ n. d ≤ n) h.walk.2 (g.least h.walk.0 h.walk.1))

one-dist : (w : Wiring) (v : View) (a b : ℕ) (o q : Option ℕ) → IsDist w v a b o → IsDist w v a b q → o ≡ q
one-dist w v a b (Some c) (Some d) h g = ap (λ n. Some n) (one-least w v a b c d h g)
one-dist w v a b (Some c) None h g = absurd (g h.walk.0 h.walk.1)
one-dist w v a b None (Some d) h g = absurd (h g.walk.0 g.walk.1)
one-dist w v a b None None h g = refl

-- a list of one at most has one member
one-member : (xs : List ℕ) (a b : ℕ) → length xs ≤ 1 → In xs a → In xs b → a ≡ b
one-member [] a b few i j = absurd i
one-member (x ∷ []) a b few i j = one i ∙ sym (one j)
  where
    one : {c : ℕ} → In (x ∷ []) c → c ≡ x
    one k = elim k [ inl e ↦ sym e | inr n ↦ absurd n ]
one-member (x ∷ y ∷ xs) a b few i j = absurd (many few)
  where
    many : suc (suc (length xs)) ≤ 1 → ⊥
    many h = omega (arith, h)

module _ (w : Wiring) (v u : View) (to : ℕ) (joins : JoinsNodes w) (once : JoinsOnce w) (costs : AllCost w) (inside : to < length w.loopbacks)
    (less : HasNoMore u v) (spared : IsSpared w v u to) where
  across-below : (n l : ℕ) → l < length w.ends → across w l n < length w.loopbacks
  across-below n l h = cond_below _ _ _ _ (joins l h).1 (joins l h).0

  -- 1. A walk that is left was there before

  goes-before : (n l : ℕ) → may_go w u n l ≡ true → may_go w v n l ≡ true
  goes-before n l h =
      let p = and_parts (is_up u l) (is_end w l n && nat_lt l (length w.ends)) h in
      ap (λ b. b && (is_end w l n && nat_lt l (length w.ends))) (less l p.0) ∙ p.1

  walks-before : (ls : List ℕ) (a b : ℕ) → walk_end w u a ls ≡ Some b → walk_end w v a ls ≡ Some b
  walks-before [] a b h = h
  walks-before (l ∷ ls) a b h = by (λ e. walks-before ls (across w l a) b e) (may_go w u a l) refl h
    where
      by : (walk_end w u (across w l a) ls ≡ Some b → walk_end w v (across w l a) ls ≡ Some b) → (g : Bool) → may_go w u a l ≡ g →
          cond g (walk_end w u (across w l a) ls) None ≡ Some b
          → cond (may_go w v a l) (walk_end w v (across w l a) ls) None ≡ Some b
      by more true g e = ap (λ c. cond c (walk_end w v (across w l a) ls) None) (goes-before a l g) ∙ more e
      by more false g e = absurd (no_node b e)

  -- 2. A least walk is left

  next-then : (n : ℕ) → n < length w.loopbacks → n ≢ to → IsNext w v n to (next w v n to)
  next-then n below apart = next_is w v to joins n below apart

  walk-left : (fuel d n : ℕ) → d < fuel → n < length w.loopbacks → IsLeast w v n to d → (ls : List ℕ) × (walk_end w u n ls ≡ Some to) × (cost_of w ls ≡ d)
  walk-left zero d n f below least = absurd (none f)
    where
      none : d < 0 → ⊥
      none h = omega (arith, h)
  walk-left (suc fuel) d n f below least = elim (eqb_tells n to) [
    | inl e ↦ ([], ap (λ x. Some x) e.1, free (least.least [] (ap (λ x. Some x) e.1)))
    | inr e ↦ by_hop (λ m x g i l. walk-left fuel x m g i l) e.1 (next w v n to) refl (next-then n below e.1)
  ]
    where
      free : d ≤ 0 → 0 ≡ d
      free h = omega (arith, h)

      by_hop : ((m x : ℕ) → x < fuel → m < length w.loopbacks → IsLeast w v m to x → (ls : List ℕ) × (walk_end w u m ls ≡ Some to) × (cost_of w ls ≡ x)) →
          n ≢ to
          → (o : Option (ℕ × ℕ)) → next w v n to ≡ o → IsNext w v n to o → (ls : List ℕ) × (walk_end w u n ls ≡ Some to) × (cost_of w ls ≡ d)
      by_hop more apart None is none = absurd (none least.walk.0 least.walk.1)
      by_hop more apart (Some hop) is some =
          let l : ℕ = hop.1 in
          let on = some.1 in
          let whole : (link w hop.1).cost + on.rest ≡ d = one-least w v n to ((link w hop.1).cost + on.rest) d on.whole least in
          let r = more (across w hop.1 n) on.rest (shorter (costs hop.1 on.there) whole f) (across-below n hop.1 on.there) on.after in (
            hop.1 ∷ r.0,
            ap (λ b. cond b (walk_end w u (across w hop.1 n) r.0) None) (goes (spared n hop below apart is) on.at_node on.there) ∙ r.1,
            ap (λ k. (link w hop.1).cost + k) r.2 ∙ whole,
          )
        where
          shorter : {c r : ℕ} → 1 ≤ c → c + r ≡ d → d < suc fuel → r < fuel
          shorter a b c = omega (arith, a, b, c)

          goes : is_up u hop.1 ≡ true → is_end w hop.1 n ≡ true → hop.1 < length w.ends → may_go w u n hop.1 ≡ true
          goes up at there =
              ap (λ b. b && (is_end w hop.1 n && nat_lt hop.1 (length w.ends))) up ∙ ap (λ b. b && nat_lt hop.1 (length w.ends)) at
              ∙ less_is hop.1 (length w.ends) there

  least-left : (n d : ℕ) → n < length w.loopbacks → IsLeast w v n to d → IsLeast w u n to d
  least-left n d below least =
      record { walk = walk-left (suc d) d n (omega arith) below least; least = λ ls h. least.least ls (walks-before ls n to h) }

  least-before : (n d : ℕ) → n < length w.loopbacks → IsLeast w u n to d → IsLeast w v n to d
  least-before n d below least = by (dist_in (dists_to w v to) n) (dists_are_least w v to joins n below)
    where
      by : (o : Option ℕ) → IsDist w v n to o → IsLeast w v n to d
      by None none = absurd (none least.walk.0 (walks-before least.walk.0 n to least.walk.1))
      by (Some e) then = subst (IsLeast w v n to) (one-least w u n to e d (least-left n e below then) least) then

  dist-left : (n : ℕ) (o : Option ℕ) → n < length w.loopbacks → IsDist w v n to o → IsDist w u n to o
  dist-left n None below none = λ ls h. none ls (walks-before ls n to h)
  dist-left n (Some d) below least = least-left n d below least

  -- 3. So next hops stay

  on-left : (n l : ℕ) → n < length w.loopbacks → is_up u l ≡ true → IsOnLeast w v n to l → IsOnLeast w u n to l
  on-left n l below up h = record {
    there = h.there;
    at_node = h.at_node;
    up = up;
    rest = h.rest;
    after = least-left (across w l n) h.rest (across-below n l h.there) h.after;
    whole = least-left n ((link w l).cost + h.rest) below h.whole;
  }

  on-before : (n l : ℕ) → n < length w.loopbacks → IsOnLeast w u n to l → IsOnLeast w v n to l
  on-before n l below h = record {
    there = h.there;
    at_node = h.at_node;
    up = less l h.up;
    rest = h.rest;
    after = least-before (across w l n) h.rest (across-below n l h.there) h.after;
    whole = least-before n ((link w l).cost + h.rest) below h.whole;
  }

  next-left : (n : ℕ) (o : Option (ℕ × ℕ)) → n < length w.loopbacks → n ≢ to → next w v n to ≡ o → IsNext w v n to o → IsNext w u n to o
  next-left n None below apart is none = λ ls h. none ls (walks-before ls n to h)
  next-left n (Some hop) below apart is some =
      (some.0, on-left n hop.1 below (spared n hop below apart is) some.1, λ l h. some.2 l (on-before n l below h))

  joins-them : (n m l : ℕ) → l < length w.ends → is_end w l n ≡ true → m ≡ across w l n → In (joining w n m) l
  joins-them n m l there at far =
      filter_in (λ k. across w k n == m) (links_at w n) l
      (filter_in (λ k. is_end w k n) (links_of w) l (range_in 0 (length w.ends) l (omega arith) (omega (arith, there))) at) (same (across w l n) m (sym far))
    where
      same : (x y : ℕ) → x ≡ y → (x == y) ≡ true
      same x y h = elim (eqb_tells x y) [ inl q ↦ q.0 | inr q ↦ absurd (q.1 h) ]

  pairs : (a b : ℕ × ℕ) → a.0 ≡ b.0 → a.1 ≡ b.1 → a ≡ b
  pairs (x, l) (y, m) h g = ap (λ k. (k, l)) h ∙ ap (λ k. (y, k)) g

  one-next : (n : ℕ) (o q : Option (ℕ × ℕ)) → n < length w.loopbacks → IsNext w u n to o → IsNext w u n to q → o ≡ q
  one-next n None None below h g = refl
  one-next n None (Some b) below h g = absurd (h g.1.whole.walk.0 g.1.whole.walk.1)
  one-next n (Some a) None below h g = absurd (g h.1.whole.walk.0 h.1.whole.walk.1)
  one-next n (Some a) (Some b) below h g =
      let node : a.0 ≡ b.0 = same_number (subst (λ k. a.0 ≤ k) (sym g.0) (h.2 b.1 g.1)) (subst (λ k. b.0 ≤ k) (sym h.0) (g.2 a.1 h.1)) in
      let there : a.0 < length w.loopbacks = subst (λ k. k < length w.loopbacks) (sym h.0) (across-below n a.1 h.1.there) in
      ap (λ k. Some k) (pairs a b node
      (one-member (joining w n a.0) a.1 b.1 (once n a.0 below there) (joins-them n a.0 a.1 h.1.there h.1.at_node h.0)
      (joins-them n a.0 b.1 g.1.there g.1.at_node (node ∙ g.0))))

  pub stays-so : StaysAsItWas w v u to
  stays-so = record {
    dists =
        λ n below. one-dist w u n to (dist_in (dists_to w u to) n) (dist_in (dists_to w v to) n) (dists_are_least w u to joins n below)
        (dist-left n (dist_in (dists_to w v to) n) below (dists_are_least w v to joins n below));
    nexts =
        λ n below apart. one-next n (next w u n to) (next w v n to) below (next_is w u to joins n below apart)
        (next-left n (next w v n to) below apart refl (next-then n below apart));
  }

pub stays : (w : Wiring) (before after : View) (to : ℕ) → JoinsNodes w → JoinsOnce w → AllCost w → to < length w.loopbacks → HasNoMore after before
    → IsSpared w before after to → StaysAsItWas w before after to
stays w before after to joins once costs inside less spared = stays-so w before after to joins once costs inside less spared
