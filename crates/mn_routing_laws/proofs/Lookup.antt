-- Of the same routes the first longest match in their order is the ledger's best.
use Rattle.std.proofs.Common.{ℕ, ◌≡◌, ◌⊎◌, inl, inr, Bool, true, false, List, [], ◌∷◌, filter, refl, arith, sym, ◌∙◌, ap, subst, Option, Some, None}
use Rattle.std.specs.Prelude.{◌==◌, ◌&&◌, ◌||◌, nat_lt, nat_le, option_map}
use Rattle.std.specs.List.{list_all}
use Rattle.std.proofs.lemmas.Bool.Decides.{nat_tests}
use Rattle.mn_prefix.specs.Prefix.{AddressBlock, IsPrefix, contains}
use Rattle.mn_prefix.specs.Longest.{is_longest}
use Rattle.mn_prefix.specs.Longest as longest
use Rattle.mn_prefix.specs.Table.{first_of, longest_match}
use Rattle.mn_ledger.specs.Held.{HeldRoute, is_better, is_preferred, best}
use Rattle.mn_ledger.specs.Held as ledger_held
use Rattle.mn_ledger.specs.Best.{IsBest}
use Rattle.mn_ledger.proofs.Members.{In, in_filter, filter_in, contained_in, in_contained}
use Rattle.mn_ledger.proofs.Choice.{names_one, neither_better, one_prefix}
use Rattle.mn_base.specs.Ordered.{Ascends}
use Rattle.mn_base.proofs.Orders.{first_same}
use Rattle.mn_base.proofs.Places.{ascends_filter}
use Rattle.mn_vrf.specs.Routes.{source_before, route_before}
use Rattle.mn_vrf.specs.declared.source.Source.{Source}
use Rattle.mn_bgp_spelling_laws.specs.Spelling.{Labels}
use Rattle.mn_routing_laws.specs.Sources.{source_from, as_held}
use Rattle.mn_base.proofs.Bools.{no, two_ways}
use Rattle.mn_base.proofs.Members.{all_in}

-- 1. The first of an ascending list

pub first_is_least : {A : Type 0} (before : A → A → Bool) (xs : List A) (x : A) → ((y z : A) → before y z ≡ true → before z y ≡ true → ⊥) →
    Ascends before xs → In xs x → ((y : A) → In xs y → (before x y ≡ true) ⊎ (x ≡ y)) → first_of xs ≡ Some x
first_is_least before [] x one_way up i least = absurd i
first_is_least before (y ∷ ys) x one_way up i least = elim (least y (inl refl)) [
  | inr e ↦ ap (λ z. Some z) (sym e)
  | inl h ↦ elim i [
    | inl e ↦ ap (λ z. Some z) e
    | inr j ↦ absurd (one_way x y h (all_in (λ z. before y z ≡ true) ys x up.0 j))
  ]
]

every : {A : Type 0} (p : A → Bool) (xs : List A) → ((x : A) → In xs x → p x ≡ true) → list_all p xs ≡ true
every p [] h = refl
every p (x ∷ xs) h = ap (λ b. b && list_all p xs) (h x (inl refl)) ∙ every p xs (λ y i. h y (inr i))

each_of : {A : Type 0} (p : A → Bool) (xs : List A) (x : A) → list_all p xs ≡ true → In xs x → p x ≡ true
each_of p [] x h i = absurd i
each_of p (y ∷ ys) x h i = elim i [ inl e ↦ ap p (sym e) ∙ left (p y) (list_all p ys) h | inr j ↦ each_of p ys x (right (p y) (list_all p ys) h) j ]
  where
    left : (a b : Bool) → (a && b) ≡ true → a ≡ true
    left true b h = refl
    left false b h = h

    right : (a b : Bool) → (a && b) ≡ true → b ≡ true
    right true b h = h
    right false b h = absurd (no h)

-- 2. The order of routes is the ledger's preference

pub preferred_same : (l : Labels) (x y : HeldRoute) → source_before (as_held l x).1 (as_held l y).1 ≡ is_preferred x.source y.source
preferred_same l x y = by_sources x.source y.source
  where
    by_sources : (s r : ledger_held.Source) →
        source_before (source_from l x.edge x.site x.attachment s) (source_from l y.edge y.site y.attachment r) ≡ is_preferred s r
    by_sources ledger_held.Own ledger_held.Own = refl
    by_sources ledger_held.Own (ledger_held.Near v) = refl
    by_sources ledger_held.Own (ledger_held.Far a d) = refl
    by_sources (ledger_held.Near v) ledger_held.Own = refl
    by_sources (ledger_held.Near v) (ledger_held.Near w) = refl
    by_sources (ledger_held.Near v) (ledger_held.Far a d) = refl
    by_sources (ledger_held.Far a d) ledger_held.Own = refl
    by_sources (ledger_held.Far a d) (ledger_held.Near v) = refl
    by_sources (ledger_held.Far a d) (ledger_held.Far b r) = refl

-- 3. The lookup

not_above : (m n : ℕ) → nat_lt m n ≡ false → nat_le n m ≡ true
not_above m n h = grind (arith, nat_tests, h)

both_least : (m n : ℕ) → nat_le m n ≡ true → nat_le n m ≡ true → m ≡ n
both_least m n h g = grind (arith, nat_tests, h, g)

or_parts : (a b : Bool) → (a || b) ≡ false → (a ≡ false) × (b ≡ false)
or_parts true b h = absurd (no (sym h))
or_parts false b h = (refl, h)

better_parts : (x y : HeldRoute) → is_better x y ≡ false → (nat_lt y.prefix.length x.prefix.length ≡ false) ×
    (((x.prefix.length == y.prefix.length) && is_preferred x.source y.source) ≡ false)
better_parts x y h = or_parts (nat_lt y.prefix.length x.prefix.length) ((x.prefix.length == y.prefix.length) && is_preferred x.source y.source) h

pub record SameRoutes (l : Labels) (routes : List HeldRoute) (held : List (AddressBlock × Source)) : Type 0 where
  pub up : Ascends route_before held
  pub there : (x : HeldRoute) → In routes x → In held (as_held l x)
  pub only : (h : AddressBlock × Source) → In held h → (x : HeldRoute) × In routes x × (as_held l x ≡ h)

module _ (l : Labels) (routes : List HeldRoute) (held : List (AddressBlock × Source)) (address : ℕ)
    (one_way : (y z : AddressBlock × Source) → route_before y z ≡ true → route_before z y ≡ true → ⊥) (same : SameRoutes l routes held)
    (formed : (a : HeldRoute) → In routes a → IsPrefix a.prefix.address a.prefix.length)
    (apart : (a b : HeldRoute) → In routes a → In routes b → a.source ≡ b.source → a.prefix ≡ b.prefix → a ≡ b) where
  found : List (AddressBlock × Source)
  found = longest.matching (λ pair. pair.0) address held

  -- the routes that are found come from those that match
  from_found : (h : AddressBlock × Source) → In found h → (x : HeldRoute) × In routes x × (as_held l x ≡ h) × (contains x.prefix address ≡ true)
  unfolding found
  from_found h i =
      let m = in_filter (λ (pair : AddressBlock × Source). contains pair.0 address) held h i in
      let r = same.only h m.0 in
      (r.0, r.1, r.2, ap (λ (pair : AddressBlock × Source). contains pair.0 address) r.2 ∙ m.1)

  none_found : best routes address ≡ None → longest_match address held ≡ None
  unfolding found
  none_found h = ap (λ xs. first_of (filter (is_longest (λ (pair : AddressBlock × Source). pair.0) xs) xs))
      (empty found (λ x i. let r = from_found x i in no (sym ((names_one routes address formed apart).none h r.0 (contained_in routes r.0 r.1)) ∙ r.3)))
    where
      empty : (xs : List (AddressBlock × Source)) → ((x : AddressBlock × Source) → In xs x → ⊥) → xs ≡ []
      empty [] g = refl
      empty (x ∷ xs) g = absurd (g x (inl refl))

  best_found : (x : HeldRoute) → best routes address ≡ Some x → longest_match address held ≡ Some (as_held l x)
  unfolding found
  best_found x h =
      let b : IsBest routes address x = (names_one routes address formed apart).named x h in
      let here : In routes x = in_contained routes x b.held in
      let in_found : In found (as_held l x) = filter_in (λ (pair : AddressBlock × Source). contains pair.0 address) held (as_held l x)
      (same.there x here) b.matches in
      let longest_here : is_longest (λ (pair : AddressBlock × Source). pair.0) found (as_held l x) ≡ true =
      every (λ (other : AddressBlock × Source). nat_le other.0.length x.prefix.length) found (λ o i.
      let r = from_found o i in
      ap (λ (pair : AddressBlock × Source). nat_le pair.0.length x.prefix.length) (sym r.2)
      ∙ not_above x.prefix.length r.0.prefix.length (better_parts r.0 x (b.unbeaten r.0 (contained_in routes r.0 r.1) r.3)).0) in
      first_is_least route_before (filter (is_longest (λ (pair : AddressBlock × Source). pair.0) found) found) (as_held l x) one_way
      (ascends_filter route_before (is_longest (λ (pair : AddressBlock × Source). pair.0) found) found
      (ascends_filter route_before (λ (pair : AddressBlock × Source). contains pair.0 address) held same.up))
      (filter_in (is_longest (λ (pair : AddressBlock × Source). pair.0) found) found (as_held l x) in_found longest_here)
      (λ o i.
      let m = in_filter (is_longest (λ (pair : AddressBlock × Source). pair.0) found) found o i in
      let r = from_found o m.0 in
      let unbeaten = better_parts r.0 x (b.unbeaten r.0 (contained_in routes r.0 r.1) r.3) in
      let longer : nat_le x.prefix.length r.0.prefix.length ≡ true =
      each_of (λ (other : AddressBlock × Source). nat_le other.0.length r.0.prefix.length) found (as_held l x)
      (ap (is_longest (λ (pair : AddressBlock × Source). pair.0) found) r.2 ∙ m.1) in_found in
      let as_long : r.0.prefix.length ≡ x.prefix.length = both_least r.0.prefix.length x.prefix.length
      (not_above x.prefix.length r.0.prefix.length unbeaten.0) longer in
      let one : r.0.prefix ≡ x.prefix = one_prefix r.0.prefix x.prefix address (formed r.0 r.1) (formed x here) as_long r.3 b.matches in
      elim (two_ways (is_preferred x.source r.0.source)) [
        | inl p ↦ inl (subst (λ o. route_before (as_held l x) o ≡ true) r.2
            (first_same x.prefix.address r.0.prefix.address _ (ap (λ (q : AddressBlock). q.address) (sym one))
            ∙ first_same x.prefix.length r.0.prefix.length _ (sym as_long) ∙ preferred_same l x r.0 ∙ p))
        | inr p ↦
            let back : is_better x r.0 ≡ false = ap (λ c. c || ((x.prefix.length == r.0.prefix.length) && is_preferred x.source r.0.source))
            (no_less r.0.prefix.length x.prefix.length as_long) ∙ ap (λ c. (x.prefix.length == r.0.prefix.length) && c) p
            ∙ and_false (x.prefix.length == r.0.prefix.length) in
            let neither = neither_better x r.0 back (b.unbeaten r.0 (contained_in routes r.0 r.1) r.3) in
            inr (ap (as_held l) (apart x r.0 here r.1 neither.1 (sym one)) ∙ r.2)
      ])
    where
      no_less : (m n : ℕ) → m ≡ n → nat_lt m n ≡ false
      no_less m n e = grind (arith, nat_tests, e)

      and_false : (c : Bool) → (c && false) ≡ false
      and_false true = refl
      and_false false = refl

  pub lookup_is_best : longest_match address held ≡ option_map (as_held l) (best routes address)
  lookup_is_best = by_answer (best routes address) refl
    where
      by_answer : (o : Option HeldRoute) → best routes address ≡ o → longest_match address held ≡ option_map (as_held l) o
      by_answer None e = none_found e
      by_answer (Some x) e = best_found x e
