-- A change of what a node offers weighs as much as all that it says of it, and at most 4 for each node and link.
use Rattle.std.proofs.Common.{ℕ, zero, suc, ◌≡◌, ◌≢◌, ◌+◌, ◌*◌, ◌<◌, ◌≤◌, inl, inr, Bool, true, false, List, [], ◌∷◌, length, refl, arith, sym, ◌∙◌, ap}
use Rattle.std.proofs.Common.{subst, Option, None, Some}
use Rattle.std.specs.Prelude.{◌==◌, ◌||◌, eqb}
use Rattle.std.specs.List.{IsDistinct, list_any}
use Rattle.std.proofs.lemmas.Bool.Decides.{eqb_tells}
use Rattle.std.proofs.lemmas.Map.Steps.{length-le_from_distinct_below}
use Rattle.mn_base.proofs.Bools.{two_ways, clash}
use Rattle.mn_wiring.specs.Wiring.{View, link, is_end, across}
use Rattle.mn_wiring.specs.Paths.{IsLeast, next}
use Rattle.mn_base.proofs.Rules.{none_is, some_is}
use Rattle.mn_topo.specs.Network.{Network, wiring_of}
use Rattle.mn_topo.specs.Lawful.{IsLawful}
use Rattle.mn_ledger.proofs.Nearer.{nearer}
use Rattle.mn_ledger.proofs.Turning.{across-end}
use Rattle.mn_drain_laws.specs.Sums.{total, where_so}
use Rattle.mn_drain_laws.specs.Weights.{degree, to_node, one_on, passed, is_node, is_over, after_hops, weight, mention_weight}
use Rattle.mn_drain_laws.proofs.Sums.{total-below, total-same, total-add, total-none, total-turn, total-one, total-only, total-most}
use Rattle.mn_settled_laws.proofs.Hops.{some-next, hop-below}
use Rattle.mn_settled_laws.proofs.Route.{any-none, or-tells}

-- 1. Sums of numbers that count only where a test holds

where-on : (b : Bool) (n : ℕ) → b ≡ true → where_so b n ≡ n
where-on b n e = ap (λ c. where_so c n) e

where-off : (b : Bool) (n : ℕ) → b ≡ false → where_so b n ≡ 0
where-off b n e = ap (λ c. where_so c n) e

pub where-most : (b : Bool) (n : ℕ) → where_so b n ≤ n
where-most true n = omega arith
where-most false n = omega arith

where-none : (b : Bool) → where_so b 0 ≡ 0
where-none true = refl
where-none false = refl

where-add : (b : Bool) (m n : ℕ) → where_so b (m + n) ≡ where_so b m + where_so b n
where-add true m n = refl
where-add false m n = refl

where-two : (b : Bool) → where_so b 2 ≡ where_so b 1 + where_so b 1
where-two true = omega arith
where-two false = omega arith

pub total-shift : (n : ℕ) (f : ℕ → ℕ) → f 0 + total n (λ i. f (suc i)) ≡ f n + total n f
total-shift zero f = refl
total-shift (suc n) f = omega (arith, total-shift n f)

-- 2. Where next hops lead

module _ (t : Network) (v : View) (lawful : IsLawful t) (p : ℕ) where
  -- nodes that were passed are farther
  abbrev AreFarther : ℕ → List ℕ → Type 0
  AreFarther d seen = (q : ℕ) → list_any (eqb q) seen ≡ true → (q < length t.loopbacks) × (e : ℕ) × IsLeast (wiring_of t) v q p e × (d < e)

  one-least : (q a b : ℕ) → IsLeast (wiring_of t) v q p a → IsLeast (wiring_of t) v q p b → a ≤ b
  one-least q a b x y = subst (λ n. a ≤ n) y.walk.2 (x.least y.walk.0 y.walk.1)

  not-seen : (d n : ℕ) (seen : List ℕ) → IsLeast (wiring_of t) v n p d → AreFarther d seen → list_any (eqb n) seen ≡ false
  not-seen d n seen least far = elim (two_ways (list_any (eqb n) seen)) [
    | inr e ↦ e
    | inl e ↦ let f = far n e in absurd (over (one-least n f.1 d f.2 least) f.3)
  ]
    where
      over : {a b : ℕ} → b ≤ a → a < b → ⊥
      over h g = omega (arith, h, g)

  more-seen : (d r n : ℕ) (seen : List ℕ) → n < length t.loopbacks → IsLeast (wiring_of t) v n p d → r < d → AreFarther d seen → AreFarther r (n ∷ seen)
  more-seen d r n seen below least less far q h = elim (eqb_tells q n) [
    | inl e ↦ (subst (λ j. j < length t.loopbacks) (sym e.1) below, d, subst (λ j. IsLeast (wiring_of t) v j p d) (sym e.1) least, less)
    | inr e ↦ let f = far q (or-tells (eqb q n) (list_any (eqb q) seen) h e.0) in (f.0, f.1, f.2, omega (arith, f.3, less))
  ]

  -- where so many hops lead, and the nodes before it, all farther
  abbrev Trail : ℕ → ℕ → Type 0
  Trail j y =
      (seen : List ℕ) × (length seen ≡ j) × IsDistinct eqb seen × (y < length t.loopbacks) × ((d : ℕ) → IsLeast (wiring_of t) v y p d → AreFarther d seen)

  trail-on : (j y : ℕ) (hop : ℕ × ℕ) → Trail j y → next (wiring_of t) v y p ≡ Some hop → Trail (suc j) hop.0 × (r : ℕ) × IsLeast (wiring_of t) v hop.0 p r
  unfolding IsDistinct
  trail-on j y hop trail is =
      let some = (some-next t v lawful p y hop trail.3 is).1 in
      let d : ℕ = (link (wiring_of t) hop.1).cost + some.1.rest in
      let near = nearer t v y p d hop lawful trail.3 (some-next t v lawful p y hop trail.3 is).0 is some.1.whole in
      let far : AreFarther d trail.0 = trail.4 d some.1.whole in (
        (
          y ∷ trail.0,
          ap suc trail.1,
          (any-none y trail.0 (not-seen d y trail.0 some.1.whole far), trail.2),
          hop-below t v lawful p y hop some,
          λ r least. more-seen d r y trail.0 trail.3 some.1.whole (less (one-least hop.0 r near.rest least near.is_least) near.is_less) far,
        ),
        near.rest,
        near.is_least,
      )
    where
      less : {a b c : ℕ} → a ≤ b → b < c → a < c
      less f g = omega (arith, f, g)

  trails : (j x y : ℕ) → x < length t.loopbacks → passed (wiring_of t) v p j x ≡ Some y → Trail j y
  unfolding IsDistinct
  trails zero x y below is = ([], refl, tt, subst (λ n. n < length t.loopbacks) (some_is x y is) below, λ d least q h. absurd (clash (sym h)))
  trails (suc j) x y below is = by_last (λ z e. trails j x z below e) (passed (wiring_of t) v p j x) refl is
    where
      by_hop : (z : ℕ) (o : Option (ℕ × ℕ)) → Trail j z → next (wiring_of t) v z p ≡ o → to_node o ≡ Some y → Trail (suc j) y
      by_hop z None trail e f = absurd (none_is y f)
      by_hop z (Some hop) trail e f = subst (Trail (suc j)) (some_is hop.0 y f) (trail-on j z hop trail e).0

      by_last : ((z : ℕ) → passed (wiring_of t) v p j x ≡ Some z → Trail j z) → (o : Option ℕ) → passed (wiring_of t) v p j x ≡ o
          → one_on (wiring_of t) v p o ≡ Some y → Trail (suc j) y
      by_last before None e f = absurd (none_is y f)
      by_last before (Some z) e f = by_hop z (next (wiring_of t) v z p) (before z e) refl f

  -- no trail has as many hops as there are nodes
  no-trail : (j : ℕ) (x y : ℕ) → x < length t.loopbacks → passed (wiring_of t) v p (suc j) x ≡ Some y → suc (suc j) ≤ length t.loopbacks
  unfolding IsDistinct
  no-trail j x y below is = by_last (passed (wiring_of t) v p j x) refl is
    where
      by_hop : (z : ℕ) (o : Option (ℕ × ℕ)) → Trail j z → next (wiring_of t) v z p ≡ o → to_node o ≡ Some y → suc (suc j) ≤ length t.loopbacks
      by_hop z None trail e f = absurd (none_is y f)
      by_hop z (Some hop) trail e f =
          let on = trail-on j z hop trail e in
          let next_trail : Trail (suc j) hop.0 = on.0 in
          let far : AreFarther on.1 next_trail.0 = next_trail.4 on.1 on.2 in
          subst (λ n. suc n ≤ length t.loopbacks) next_trail.1
          (length-le_from_distinct_below (hop.0 ∷ next_trail.0) (length t.loopbacks)
          (any-none hop.0 next_trail.0 (not-seen on.1 hop.0 next_trail.0 on.2 far), next_trail.2) (λ q h. elim (eqb_tells q hop.0) [
            | inl g ↦ subst (λ n. n < length t.loopbacks) (sym g.1) next_trail.3
            | inr g ↦ (far q (or-tells (eqb q hop.0) (list_any (eqb q) next_trail.0) h g.0)).0
          ]))

      by_last : (o : Option ℕ) → passed (wiring_of t) v p j x ≡ o → one_on (wiring_of t) v p o ≡ Some y → suc (suc j) ≤ length t.loopbacks
      by_last None e f = absurd (none_is y f)
      by_last (Some z) e f = by_hop z (next (wiring_of t) v z p) (trails j x z below e) refl f

  none-after : (n x : ℕ) → x < length t.loopbacks → is_node (passed (wiring_of t) v p (length t.loopbacks) x) n ≡ false
  none-after n x below = by_size (length t.loopbacks) refl
    where
      over : (j : ℕ) → length t.loopbacks ≡ suc j → suc (suc j) ≤ length t.loopbacks → ⊥
      over j e h = omega (arith, e, h)

      empty : length t.loopbacks ≡ 0 → x < length t.loopbacks → ⊥
      empty e h = omega (arith, e, h)

      by_node : (j : ℕ) (o : Option ℕ) → length t.loopbacks ≡ suc j → passed (wiring_of t) v p (suc j) x ≡ o → is_node o n ≡ false
      by_node j None e f = refl
      by_node j (Some y) e f = absurd (over j e (no-trail j x y below f))

      by_size : (k : ℕ) → length t.loopbacks ≡ k → is_node (passed (wiring_of t) v p (length t.loopbacks) x) n ≡ false
      by_size zero e = absurd (empty e below)
      by_size (suc j) e = ap (λ k. is_node (passed (wiring_of t) v p k x) n) e ∙ by_node j (passed (wiring_of t) v p (suc j) x) e refl

  -- 3. What a change of a node's offer weighs

  same-test : (n : ℕ) → (n == n) ≡ true
  same-test n = elim (eqb_tells n n) [ inl q ↦ q.0 | inr q ↦ absurd (q.1 refl) ]

  -- of the links at a node at most one leads to a neighbour whose next hop it is
  abbrev over_link : ℕ → Option ℕ → ℕ → ℕ → ℕ
  over_link n o d l =
      where_so (is_end (wiring_of t) l n) (where_so (is_over (next (wiring_of t) v (across (wiring_of t) l n) p) l)
      (where_so (is_node o (across (wiring_of t) l n)) d))

  over-off : (n : ℕ) (o : Option ℕ) (d l : ℕ) → (is_end (wiring_of t) l n ≡ true → is_over (next (wiring_of t) v (across (wiring_of t) l n) p) l ≡ true
      → is_node o (across (wiring_of t) l n) ≡ true → ⊥) → over_link n o d l ≡ 0
  over-off n o d l h = by_tests _ _ _ h
    where
      by_tests : (a b c : Bool) → (a ≡ true → b ≡ true → c ≡ true → ⊥) → where_so a (where_so b (where_so c d)) ≡ 0
      by_tests true true true g = absurd (g refl refl refl)
      by_tests true true false g = refl
      by_tests true false c g = refl
      by_tests false b c g = refl

  same-numbers : (a b : ℕ) → (a == b) ≡ true → a ≡ b
  same-numbers a b h = elim (eqb_tells a b) [ inl q ↦ q.1 | inr q ↦ absurd (clash (sym h ∙ q.0)) ]

  over-most : (n : ℕ) (o : Option ℕ) (d l : ℕ) → over_link n o d l ≤ d
  over-most n o d l = by_tests (is_end (wiring_of t) l n) (is_over (next (wiring_of t) v (across (wiring_of t) l n) p) l) (is_node o (across (wiring_of t) l n))
    where
      by_tests : (a b c : Bool) → where_so a (where_so b (where_so c d)) ≤ d
      by_tests true true true = omega arith
      by_tests true true false = omega arith
      by_tests true false c = omega arith
      by_tests false b c = omega arith

  none-is : (l : ℕ) (o : Option (ℕ × ℕ)) → o ≡ None → is_over o l ≡ true → ⊥
  none-is l o e h = clash (sym h ∙ ap (λ q. is_over q l) e)

  by-child : (n : ℕ) (o : Option ℕ) (d : ℕ) → ((k : ℕ) → o ≡ Some k → k < length t.loopbacks)
      → total (length t.links) (over_link n o d) ≤ where_so (is_node (one_on (wiring_of t) v p o) n) d
  by-child n None d inside = at_none (total-none (length t.links) (over_link n None d) (λ l h. over-off n None d l (λ a b c. clash (sym c))))
    where
      at_none : {x : ℕ} → x ≡ 0 → x ≤ 0
      at_none e = omega (arith, e)
  by-child n (Some k) d inside = by_hop (next (wiring_of t) v k p) refl
    where
      at_none : {x y : ℕ} → x ≡ 0 → x ≤ y
      at_none e = omega (arith, e)

      by_hop : (o : Option (ℕ × ℕ)) → next (wiring_of t) v k p ≡ o → total (length t.links) (over_link n (Some k) d) ≤ where_so (is_node (to_node o) n) d
      by_hop None e =
          at_none (total-none (length t.links) (over_link n (Some k) d)
          (λ l h. over-off n (Some k) d l (λ a b c. none-is l (next (wiring_of t) v (across (wiring_of t) l n) p)
          (ap (λ j. next (wiring_of t) v j p) (sym (same-numbers k (across (wiring_of t) l n) c)) ∙ e) b)))
      by_hop (Some hop) e = total-only (length t.links) (over_link n (Some k) d) hop.1 (where_so (hop.0 == n) d) others here
        where
          others : (l : ℕ) → l < length t.links → l ≢ hop.1 → over_link n (Some k) d l ≡ 0
          others l h apart =
              over-off n (Some k) d l (λ a b c. apart (sym (same-numbers hop.1 l
              (sym (ap (λ q. is_over q l) (ap (λ j. next (wiring_of t) v j p) (sym (same-numbers k (across (wiring_of t) l n) c)) ∙ e)) ∙ b))))

          here : over_link n (Some k) d hop.1 ≤ where_so (hop.0 == n) d
          here = elim (two_ways (hop.0 == n)) [
            | inl q ↦ subst (λ b. over_link n (Some k) d hop.1 ≤ where_so b d) (sym q) (over-most n (Some k) d hop.1)
            | inr q ↦ at_none (over-off n (Some k) d hop.1 (λ a b c. clash (sym (to_it a (same-numbers k (across (wiring_of t) hop.1 n) c)) ∙ q)))
          ]
            where
              to_it : is_end (wiring_of t) hop.1 n ≡ true → k ≡ across (wiring_of t) hop.1 n → (hop.0 == n) ≡ true
              to_it a c =
                  let some = (some-next t v lawful p k hop (inside k refl) e).1 in
                  let other = across-end (wiring_of t) hop.1 n (lawful.ends_differ hop.1 some.1.there) a in
                  ap (λ j. j == n) (some.0 ∙ ap (across (wiring_of t) hop.1) c ∙ other.1) ∙ same-test n

  where-total : (a b : Bool) (n : ℕ) (f : ℕ → ℕ) → where_so a (where_so b (total n f)) ≡ total n (λ j. where_so a (where_so b (f j)))
  where-total true true n f = refl
  where-total true false n f = sym (total-none n (λ j. 0) (λ i l. refl))
  where-total false b n f = sym (total-none n (λ j. 0) (λ i l. refl))

  -- what is caused by way of the neighbours whose next hop it is
  abbrev by_way : ℕ → ℕ → ℕ
  by_way n l =
      where_so (is_end (wiring_of t) l n) (where_so (is_over (next (wiring_of t) v (across (wiring_of t) l n) p) l)
      (weight (wiring_of t) v p (across (wiring_of t) l n)))

  way-is : (n l : ℕ) → by_way n l ≡ total (length t.loopbacks)
      (λ j. total (length t.loopbacks) (λ x. over_link n (passed (wiring_of t) v p j x) (2 * degree (wiring_of t) x) l))
  way-is n l =
      where-total (is_end (wiring_of t) l n) (is_over (next (wiring_of t) v (across (wiring_of t) l n) p) l) (length t.loopbacks)
      (after_hops (wiring_of t) v p (across (wiring_of t) l n))
      ∙ total-same (length t.loopbacks) _ _ (λ j h. where-total (is_end (wiring_of t) l n) (is_over (next (wiring_of t) v (across (wiring_of t) l n) p) l)
      (length t.loopbacks)
      (λ x. where_so (is_node (passed (wiring_of t) v p j x) (across (wiring_of t) l n)) (2 * degree (wiring_of t) x)))

  ways-weigh : (n : ℕ) → total (length t.links) (by_way n) ≤ total (length t.loopbacks) (λ j. after_hops (wiring_of t) v p n (suc j))
  ways-weigh n = subst (λ x. x ≤ total (length t.loopbacks) (λ j. after_hops (wiring_of t) v p n (suc j))) (sym turned)
      (total-below (length t.loopbacks) _ _ (λ j h. total-below (length t.loopbacks) _ _
      (λ x g. by-child n (passed (wiring_of t) v p j x) (2 * degree (wiring_of t) x) (λ k e. (trails j x k g e).3))))
    where
      turned : total (length t.links) (by_way n) ≡ total (length t.loopbacks)
          (λ j. total (length t.loopbacks) (λ x. total (length t.links) (over_link n (passed (wiring_of t) v p j x) (2 * degree (wiring_of t) x))))
      turned =
          total-same (length t.links) (by_way n) _ (λ l h. way-is n l)
          ∙ total-turn (length t.links) (length t.loopbacks)
          (λ l j. total (length t.loopbacks) (λ x. over_link n (passed (wiring_of t) v p j x) (2 * degree (wiring_of t) x) l))
          ∙ total-same (length t.loopbacks) _ _ (λ j h. total-turn (length t.links) (length t.loopbacks)
          (λ l x. over_link n (passed (wiring_of t) v p j x) (2 * degree (wiring_of t) x) l))

  -- all mentions that a change causes at once weigh no more than the change
  pub weighs : (n : ℕ) → n < length t.loopbacks → total (length t.links)
      (λ l. where_so (is_end (wiring_of t) l n) (mention_weight (wiring_of t) v p l (across (wiring_of t) l n))) ≤ weight (wiring_of t) v p n
  weighs n below = omega (arith, split, twice, ways-weigh n, total-shift (length t.loopbacks) (after_hops (wiring_of t) v p n), first, last)
    where
      split : total (length t.links) (λ l. where_so (is_end (wiring_of t) l n) (mention_weight (wiring_of t) v p l (across (wiring_of t) l n)))
          ≡ total (length t.links) (λ l. where_so (is_end (wiring_of t) l n) 2) + total (length t.links) (by_way n)
      split =
          total-same (length t.links) _ _ (λ l h. where-add (is_end (wiring_of t) l n) 2
          (where_so (is_over (next (wiring_of t) v (across (wiring_of t) l n) p) l) (weight (wiring_of t) v p (across (wiring_of t) l n))))
          ∙ total-add (length t.links) (λ l. where_so (is_end (wiring_of t) l n) 2) (by_way n)

      twice : total (length t.links) (λ l. where_so (is_end (wiring_of t) l n) 2) ≡ degree (wiring_of t) n + degree (wiring_of t) n
      twice =
          total-same (length t.links) _ _ (λ l h. where-two (is_end (wiring_of t) l n))
          ∙ total-add (length t.links) (λ l. where_so (is_end (wiring_of t) l n) 1) (λ l. where_so (is_end (wiring_of t) l n) 1)

      first : degree (wiring_of t) n + degree (wiring_of t) n ≤ after_hops (wiring_of t) v p n 0
      first =
          omega (
            arith,
            total-one (length t.loopbacks) (λ x. where_so (x == n) (2 * degree (wiring_of t) x)) n below,
            where-on (n == n) (2 * degree (wiring_of t) n) (same-test n),
          )

      last : after_hops (wiring_of t) v p n (length t.loopbacks) ≡ 0
      last =
          total-none (length t.loopbacks) _ (λ x h. where-off (is_node (passed (wiring_of t) v p (length t.loopbacks) x) n) (2 * degree (wiring_of t) x)
          (none-after n x h))

  -- each link has two ends
  ends-or : (a b : Bool) → where_so (a || b) 1 ≤ where_so a 1 + where_so b 1
  ends-or true b = omega arith
  ends-or false b = omega arith

  one-number : (m k : ℕ) → total m (λ x. where_so (k == x) 1) ≤ 1
  one-number m k = total-only m (λ x. where_so (k == x) 1) k 1 (λ i h d. where-off (k == i) 1 (apart i d)) (where-most (k == k) 1)
    where
      apart : (i : ℕ) → i ≢ k → (k == i) ≡ false
      apart i d = elim (eqb_tells k i) [ inl q ↦ absurd (d (sym q.1)) | inr q ↦ q.0 ]

  two-ends : (l : ℕ) → total (length t.loopbacks) (λ x. where_so (is_end (wiring_of t) l x) 1) ≤ 2
  two-ends l = omega (
    arith,
    total-below (length t.loopbacks) (λ x. where_so (is_end (wiring_of t) l x) 1)
        (λ x. where_so ((link (wiring_of t) l).a.0 == x) 1 + where_so ((link (wiring_of t) l).b.0 == x) 1)
        (λ x h. ends-or ((link (wiring_of t) l).a.0 == x) ((link (wiring_of t) l).b.0 == x)),
    total-add (length t.loopbacks) (λ x. where_so ((link (wiring_of t) l).a.0 == x) 1) (λ x. where_so ((link (wiring_of t) l).b.0 == x) 1),
    one-number (length t.loopbacks) (link (wiring_of t) l).a.0,
    one-number (length t.loopbacks) (link (wiring_of t) l).b.0,
  )

  pub degrees : total (length t.loopbacks) (degree (wiring_of t)) ≤ length t.links * 2
  degrees = subst (λ x. x ≤ length t.links * 2) (sym (total-turn (length t.loopbacks) (length t.links) (λ x l. where_so (is_end (wiring_of t) l x) 1)))
      (total-most (length t.links) (λ l. total (length t.loopbacks) (λ x. where_so (is_end (wiring_of t) l x) 1)) 2 (λ l h. two-ends l))

  double : (n : ℕ) (f : ℕ → ℕ) → total n (λ i. 2 * f i) ≡ 2 * total n f
  double zero f = refl
  double (suc n) f = omega (arith, double n f)

  pub weight-most : (n : ℕ) → weight (wiring_of t) v p n ≤ length t.loopbacks * (4 * length t.links)
  weight-most n = total-most (length t.loopbacks) (after_hops (wiring_of t) v p n) (4 * length t.links) (λ j h. omega (
    arith,
    total-below (length t.loopbacks) (λ x. where_so (is_node (passed (wiring_of t) v p j x) n) (2 * degree (wiring_of t) x)) (λ x. 2 * degree (wiring_of t) x)
        (λ x g. where-most (is_node (passed (wiring_of t) v p j x) n) (2 * degree (wiring_of t) x)),
    double (length t.loopbacks) (degree (wiring_of t)),
    degrees,
  ))
