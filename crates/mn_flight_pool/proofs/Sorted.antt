-- The nodes with items sorted by the items' numbers.
use Rattle.std.proofs.Common.{◌≡◌, ◌<◌, ℕ, Bool, true, false, cond, nat_lt, List, [], ◌∷◌, ◌++◌, IsSome, inl, inr, refl, sym, ap, ◌∙◌, subst, arith}
use Rattle.std.specs.List.{AllByRecursion, AllPairs, IsDistinct, cons_option}
use Rattle.std.proofs.lemmas.Bool.Decides.{nat_tests}
use Rattle.mn_flight.specs.declared.Item.{Item}
use Rattle.mn_flight.proofs.Members as members
use Rattle.mn_flight_pool.specs.Cells.{same_place}
use Rattle.mn_flight_pool.specs.Rings.{IsIn, item_at}
use Rattle.mn_flight_pool.specs.Pool.{number_in, items_in, put_by_number, by_number, dues_of, order_of}
use Rattle.mn_flight_pool.specs.ByDue.{IsByDue}
use Rattle.mn_flight_pool.specs.declared.tick.Tick.{Tick}
use Rattle.mn_flight_pool.specs.Nodes.{Node}
use Rattle.mn_flight_pool.proofs.Changed.{same_place_refl, some_value}
use Rattle.mn_flight_pool.proofs.Neighbours.{free_at}
use Rattle.mn_flight_pool.proofs.Items.{item_member}
use Rattle.mn_flight_pool.proofs.Sooner.{in_cut, in_either, in_front, in_back, in_with, in_middle, all_in, all_from}

module _ {T : Type 0} (cells : List (Node T)) where
  abbrev number_at : ℕ → ℕ
  number_at q = number_in (item_at cells q)

  -- the number of each node is less than those of the nodes after it
  abbrev pub Ascend : List ℕ → Type 0
  Ascend [] = Unit {0}
  Ascend (p ∷ ps) = AllByRecursion (λ q. number_at p < number_at q) ps × Ascend ps

  -- nodes whose items' numbers ascend
  pub ascend_of : (ps : List ℕ) → AllByRecursion (λ p. IsSome (item_at cells p)) ps →
      AllPairs (λ (a : Item T) (b : Item T). a.number < b.number) (items_in cells ps) → Ascend ps
  ascend_of [] held up = tt
  ascend_of (p ∷ ps) held up =
      let x = some_value (item_at cells p) held.0 in
      let up' : AllPairs (λ (a : Item T) (b : Item T). a.number < b.number) (x.0 ∷ items_in cells ps) =
      subst (λ o. AllPairs (λ (a : Item T) (b : Item T). a.number < b.number) (cons_option o (items_in cells ps))) x.1 up in (
        all_from (λ q. number_at p < number_at q) ps (λ q i.
            let y = some_value (item_at cells q) (all_in (λ r. IsSome (item_at cells r)) ps q held.1 i) in
            let less : x.0.number < y.0.number = members.first_below x.0 (items_in cells ps) up' y.0 (item_member cells ps q y.0 i y.1) in
            omega (arith, less, ap (λ o. number_in o) x.1, ap (λ o. number_in o) y.1)),
        ascend_of ps held.1 (members.rest_ascends x.0 (items_in cells ps) up'),
      )

  pub ascend_without : (us : List ℕ) (p : ℕ) (vs : List ℕ) → Ascend (us ++ p ∷ vs) → Ascend (us ++ vs)
  ascend_without [] p vs up = up.1
  ascend_without (u ∷ us) p vs up = (drop us up.0, ascend_without us p vs up.1)
    where
      drop : (ys : List ℕ) → AllByRecursion (λ q. number_at u < number_at q) (ys ++ p ∷ vs) → AllByRecursion (λ q. number_at u < number_at q) (ys ++ vs)
      drop [] h = h.1
      drop (y ∷ ys) h = (h.0, drop ys h.1)

  -- those in front of a node are less, and those behind it greater
  less_before : (us : List ℕ) (p : ℕ) (vs : List ℕ) → Ascend (us ++ p ∷ vs) → (q : ℕ) → IsIn q us → number_at q < number_at p
  less_before [] p vs up q i = absurd i
  less_before (u ∷ us) p vs up q i = elim i [
    | inl e ↦ subst (λ r. number_at r < number_at p) (sym e) (all_in (λ r. number_at u < number_at r) (us ++ p ∷ vs) p up.0 (in_middle us p vs))
    | inr j ↦ less_before us p vs up.1 q j
  ]

  greater_after : (us : List ℕ) (p : ℕ) (vs : List ℕ) → Ascend (us ++ p ∷ vs) → (q : ℕ) → IsIn q vs → number_at p < number_at q
  greater_after [] p vs up q i = all_in (λ r. number_at p < number_at r) vs q up.0 i
  greater_after (u ∷ us) p vs up q i = greater_after us p vs up.1 q i

  -- a node comes to stand where its number is
  put_is : (us : List ℕ) (p : ℕ) (vs : List ℕ) → Ascend (us ++ p ∷ vs) → put_by_number cells p (us ++ vs) ≡ us ++ p ∷ vs
  put_is [] p [] up = refl
  put_is [] p (v ∷ vs) up = by (nat_lt (number_at p) (number_at v)) refl
    where
      by : (b : Bool) → nat_lt (number_at p) (number_at v) ≡ b → cond b (p ∷ v ∷ vs) (v ∷ put_by_number cells p vs) ≡ p ∷ v ∷ vs
      by true t = refl
      by false f = absurd (let less : number_at p < number_at v = up.0.0 in grind (arith, nat_tests, f, less))
  put_is (u ∷ us) p vs up = by (nat_lt (number_at p) (number_at u)) refl (put_is us p vs up.1)
    where
      by : (b : Bool) → nat_lt (number_at p) (number_at u) ≡ b → put_by_number cells p (us ++ vs) ≡ us ++ p ∷ vs →
          cond b (p ∷ u ∷ (us ++ vs)) (u ∷ put_by_number cells p (us ++ vs)) ≡ u ∷ (us ++ p ∷ vs)
      by true t rest = absurd (let less : number_at u < number_at p = less_before (u ∷ us) p vs up u (inl refl) in grind (arith, nat_tests, t, less))
      by false f rest = ap (λ l. u ∷ l) rest

  -- different nodes with the same members as those whose numbers ascend are sorted as these
  pub sorted_is : (ps qs : List ℕ) → IsDistinct same_place ps → Ascend qs → ((q : ℕ) → IsIn q ps → IsIn q qs) → ((q : ℕ) → IsIn q qs → IsIn q ps) →
      by_number cells ps ≡ qs
  unfolding IsDistinct
  sorted_is [] [] d up to from = refl
  sorted_is [] (q ∷ qs) d up to from = absurd (from q (inl refl))
  sorted_is (p ∷ ps) qs d up to from =
      let cut = in_cut p qs (to p (inl refl)) in let us = cut.0 in let vs = cut.1 in
      let up' : Ascend (us ++ p ∷ vs) = subst (λ l. Ascend l) cut.2 up in
      let rest : by_number cells ps ≡ us ++ vs =
      sorted_is ps (us ++ vs) d.1 (ascend_without us p vs up') (λ q i.
      elim (in_either q us (p ∷ vs) (subst (λ l. IsIn q l) cut.2 (to q (inr i)))) [
        | inl j ↦ in_front q us vs j
        | inr j ↦ elim j [
          | inl e ↦ absurd (clash (same_place p p) (same_place_refl p) (free_at p ps p d.0 (subst (λ r. IsIn r ps) e i)))
          | inr k ↦ in_back q us vs k
        ]
      ]) (λ q i. elim (from q (subst (λ l. IsIn q l) (sym cut.2) (in_with q us p vs i))) [
        | inl e ↦ absurd (elim (in_either q us vs i) [
          | inl j ↦ let less : number_at q < number_at p = less_before us p vs up' q j in omega (arith, less, ap number_at e)
          | inr j ↦ let more : number_at p < number_at q = greater_after us p vs up' q j in omega (arith, more, ap number_at e)
        ])
        | inr k ↦ k
      ]) in
      ap (λ l. put_by_number cells p l) rest ∙ put_is us p vs up' ∙ sym cut.2
    where
      clash : (b : Bool) → b ≡ true → b ≡ false → ⊥
      clash true s t = cc
      clash false s t = cc

  -- the order of the nodes in the ring by due tick is that of any whose numbers ascend
  pub order_is : (head n : ℕ) (qs dues : List ℕ) (ticks : List Tick) → IsByDue head qs dues ticks cells → dues_of head n cells ≡ dues → Ascend qs →
      order_of head n cells ≡ qs
  unfolding IsDistinct
  order_is head n qs dues ticks due same up =
      ap (λ l. by_number cells l) same ∙ sorted_is dues qs due.ring.apart.1 up due.flies due.stands

module _ {T : Type 0} (old new : List (Node T)) where
  -- the numbers ascend where the items are the same
  pub ascend_same : (ps : List ℕ) → ((q : ℕ) → IsIn q ps → item_at new q ≡ item_at old q) → Ascend old ps → Ascend new ps
  ascend_same [] h up = tt
  ascend_same (p ∷ ps) h up = (
    all_from (λ q. number_in (item_at new p) < number_in (item_at new q)) ps (λ q i.
        let less : number_in (item_at old p) < number_in (item_at old q) =
        all_in (λ r. number_in (item_at old p) < number_in (item_at old r)) ps q up.0 i in
        omega (arith, less, ap (λ o. number_in o) (h p (inl refl)), ap (λ o. number_in o) (h q (inr i)))),
    ascend_same ps (λ q i. h q (inr i)) up.1,
  )
