-- The prefixes that a VRF holds, in their order, each with the best of its routes, are the ledger's.
use Rattle.std.proofs.Common.{ℕ, zero, suc, ◌≡◌, ◌<◌, ◌⊎◌, inl, inr, Bool, true, false, List, [], ◌∷◌, map, filter, refl, arith, sym, ◌∙◌, ap, subst}
use Rattle.std.proofs.Common.{Option, Some, None}
use Rattle.std.specs.Prelude.{◌==◌, ◌&&◌, ◌||◌, not, nat_lt, fold, slice_get, option_map, if◌then◌else◌, ⊤}
use Rattle.std.specs.List.{list_any, AllByRecursion}
use Rattle.std.proofs.lemmas.Bool.Decides.{nat_tests}
use Rattle.mn_base.specs.Ordered.{Ascends, IsOrder, with_one, first_by}
use Rattle.mn_base.proofs.Bools.{no, two_ways, and_on, and_parts, same_test, same_numbers}
use Rattle.mn_base.proofs.Members.{In, in_filter, filter_in, in_map, map_in, none_passes, passes_none, all_in}
use Rattle.mn_base.proofs.Orders.{by_number, by_number_then, first_tells, first_same, first_neither}
use Rattle.mn_base.proofs.Places.{fold_ascends}
use Rattle.mn_base.proofs.Kept.{fold_in, in_fold, ascending_unique}
use Rattle.mn_prefix.specs.Prefix.{AddressBlock, same_prefix, prefix_before}
use Rattle.mn_ledger.specs.Exports.{comes_before}
use Rattle.mn_ledger.specs.Held.{HeldRoute, is_better, is_preferred, unbeaten, first_of}
use Rattle.mn_ledger.proofs.Choice.{pref_neither}
use Rattle.mn_vrf.specs.Routes.{source_before, route_before}
use Rattle.mn_vrf.specs.Vrf.{is_again, heads_after, heads}
use Rattle.mn_vrf.specs.declared.source.Source.{Source}
use Rattle.mn_vrf.proofs.Orders.{source_order}
use Rattle.mn_bgp_spelling_laws.specs.Spelling.{Labels}
use Rattle.mn_routing_laws.specs.Sources.{as_held}
use Rattle.mn_routing_laws.proofs.Lookup.{SameRoutes, preferred_same}
use Rattle.mn_ledger.specs.Heads.{prefixes_of, best_for, best_at, held_at}
use Rattle.mn_vrf.proofs.Keeping.{all_in as all_from}

abbrev Route : Type 0
Route = AddressBlock × Source

-- 1. Prefixes

prefix_order : IsOrder prefix_before
prefix_order = by_number_then (λ (p : AddressBlock). p.address) (λ p q. nat_lt p.length q.length) (by_number (λ (p : AddressBlock). p.length))

same_blocks : (p q : AddressBlock) → p.address ≡ q.address → p.length ≡ q.length → p ≡ q
same_blocks p q f g = ap (λ a. let r : AddressBlock = record { address = a; length = p.length } in r) f
    ∙ ap (λ n. let r : AddressBlock = record { address = q.address; length = n } in r) g

pub same_tells : (p q : AddressBlock) → same_prefix p q ≡ true → p ≡ q
same_tells p q h =
    let both = and_parts (p.address == q.address) (p.length == q.length) h in
    same_blocks p q (same_numbers p.address q.address both.0) (same_numbers p.length q.length both.1)

pub same_is : (p q : AddressBlock) → p ≡ q → same_prefix p q ≡ true
same_is p q e = ap (same_prefix p) (sym e) ∙ and_on (p.address == p.address) (p.length == p.length) (same_test p.address) (same_test p.length)

-- a route that comes before another has a lesser prefix or the same
prefixes_rise : (g h : Route) → route_before g h ≡ true → (prefix_before g.0 h.0 ≡ true) ⊎ (g.0 ≡ h.0)
prefixes_rise g h b = elim (first_tells g.0.address h.0.address _ b) [
  | inl p ↦ inl (less g.0.address h.0.address (nat_lt g.0.length h.0.length) p)
  | inr p ↦ elim (first_tells g.0.length h.0.length _ p.1) [
    | inl q ↦ inl (first_same g.0.address h.0.address _ p.0 ∙ less_is_so g.0.length h.0.length q)
    | inr q ↦ inr (same_blocks g.0 h.0 p.0 q.0)
  ]
]
  where
    less_is_so : (m n : ℕ) → m < n → nat_lt m n ≡ true
    less_is_so m n k = grind (arith, nat_tests, k)

    less : (m n : ℕ) (later : Bool) → m < n → first_by m n later ≡ true
    less m n later k = ap (λ c. c || ((m == n) && later)) (less_is_so m n k)

-- 2. The first route of each prefix, of routes in their order

-- they stand at this prefix or behind it
abbrev NotBefore : Option AddressBlock → List Route → Type 0
NotBefore None routes = ⊤
NotBefore (Some q) routes = (g : Route) → In routes g → (prefix_before q g.0 ≡ true) ⊎ (q ≡ g.0)

abbrev pub IsPast : Option AddressBlock → Route → Type 0
IsPast None h = ⊤
IsPast (Some q) h = prefix_before q h.0 ≡ true

-- it is one of them, and goes before each other of its prefix
pub record IsHead (last : Option AddressBlock) (routes : List Route) (h : Route) : Type 0 where
  pub there : In routes h
  pub least : (g : Route) → In routes g → g.0 ≡ h.0 → (route_before h g ≡ true) ⊎ (h ≡ g)
  pub past : IsPast last h

behind_first : (r : Route) (rs : List Route) → AllByRecursion (λ g. route_before r g ≡ true) rs → NotBefore (Some r.0) rs
behind_first r rs up g i = prefixes_rise r g (all_in (λ g. route_before r g ≡ true) rs g up i)

module _ (r : Route) (rs : List Route) (up : AllByRecursion (λ g. route_before r g ≡ true) rs) where
  -- a head of what follows the first is one of all
  still_head : (last : Option AddressBlock) → NotBefore last (r ∷ rs) → (h : Route) → IsHead (Some r.0) rs h → IsHead last (r ∷ rs) h
  still_head last behind h head = record {
    there = inr head.there;
    least = λ g i e. elim i [
      | inl q ↦ absurd (prefix_order.one_way r.0 r.0 (own g e q) (own g e q))
      | inr j ↦ head.least g j e
    ];
    past = by last behind;
  }
    where
      own : (g : Route) → g.0 ≡ h.0 → r ≡ g → prefix_before r.0 r.0 ≡ true
      own g e q = subst (λ p. prefix_before r.0 p ≡ true) (sym (ap (λ (x : Route). x.0) q ∙ e)) head.past

      by : (o : Option AddressBlock) → NotBefore o (r ∷ rs) → IsPast o h
      by None f = tt
      by (Some q) f = elim (f r (inl refl)) [
        | inl p ↦ prefix_order.onward q r.0 h.0 p head.past
        | inr p ↦ subst (λ z. prefix_before z h.0 ≡ true) (sym p) head.past
      ]

  -- and the first is one, unless its prefix is the last one's
  first_head : (last : Option AddressBlock) → NotBefore last (r ∷ rs) → is_again last r.0 ≡ false → IsHead last (r ∷ rs) r
  first_head last behind other = record {
    there = inl refl;
    least = λ g i e. elim i [
      | inl q ↦ inr q
      | inr j ↦ inl (all_in (λ g. route_before r g ≡ true) rs g up j)
    ];
    past = by last behind other;
  }
    where
      by : (o : Option AddressBlock) → NotBefore o (r ∷ rs) → is_again o r.0 ≡ false → IsPast o r
      by None f d = tt
      by (Some q) f d = elim (f r (inl refl)) [
        | inl p ↦ p
        | inr p ↦ absurd (no (sym d ∙ same_is q r.0 p))
      ]

heads_are : (last : Option AddressBlock) (routes : List Route) → Ascends route_before routes → NotBefore last routes → (h : Route) →
    In (heads_after last routes) h → IsHead last routes h
heads_are last [] up behind h i = absurd i
heads_are last (r ∷ rs) up behind h i =
    by (is_again last r.0) refl (λ j. still_head r rs up.0 last behind h (heads_are (Some r.0) rs up.1 (behind_first r rs up.0) h j)) i
  where
    by : (b : Bool) → is_again last r.0 ≡ b → (In (heads_after (Some r.0) rs) h → IsHead last (r ∷ rs) h) →
        In (if b then heads_after (Some r.0) rs else r ∷ heads_after (Some r.0) rs) h → IsHead last (r ∷ rs) h
    by true e rest j = rest j
    by false e rest j = elim j [ inl q ↦ subst (IsHead last (r ∷ rs)) q (first_head r rs up.0 last behind e) | inr k ↦ rest k ]

-- their prefixes ascend
heads_ascend : (last : Option AddressBlock) (routes : List Route) → Ascends route_before routes →
    Ascends prefix_before (map (λ (h : Route). h.0) (heads_after last routes))
heads_ascend last [] up = tt
heads_ascend last (r ∷ rs) up = by (is_again last r.0) (heads_ascend (Some r.0) rs up.1)
  where
    all : AllByRecursion (λ p. prefix_before r.0 p ≡ true) (map (λ (h : Route). h.0) (heads_after (Some r.0) rs))
    all = all_from (λ p. prefix_before r.0 p ≡ true) (map (λ (h : Route). h.0) (heads_after (Some r.0) rs)) (λ p i.
        let m = in_map (λ (h : Route). h.0) (heads_after (Some r.0) rs) p i in
        subst (λ z. prefix_before r.0 z ≡ true) m.2 (heads_are (Some r.0) rs up.1 (behind_first r rs up.0) m.0 m.1).past)

    by : (b : Bool) → Ascends prefix_before (map (λ (h : Route). h.0) (heads_after (Some r.0) rs)) →
        Ascends prefix_before (map (λ (h : Route). h.0) (if b then heads_after (Some r.0) rs else r ∷ heads_after (Some r.0) rs))
    by true e = e
    by false e = (all, e)

-- each prefix has one
has_head : (last : Option AddressBlock) (routes : List Route) (g : Route) → In routes g →
    In (map (λ (h : Route). h.0) (heads_after last routes)) g.0 ⊎ (last ≡ Some g.0)
has_head last [] g i = absurd i
has_head last (r ∷ rs) g i = elim i [
  | inl e ↦ own last g.0 (ap (λ (x : Route). x.0) e)
  | inr j ↦ elim (has_head (Some r.0) rs g j) [
    | inl k ↦ inl (more (is_again last r.0) g.0 k)
    | inr e ↦ own last g.0 (some_same r.0 g.0 e)
  ]
]
  where
    some_same : (p q : AddressBlock) → Some p ≡ Some q → p ≡ q
    some_same p q e = cc

    more : (b : Bool) (p : AddressBlock) → In (map (λ (h : Route). h.0) (heads_after (Some r.0) rs)) p →
        In (map (λ (h : Route). h.0) (if b then heads_after (Some r.0) rs else r ∷ heads_after (Some r.0) rs)) p
    more true p k = k
    more false p k = inr k

    own : (o : Option AddressBlock) (p : AddressBlock) → r.0 ≡ p →
        In (map (λ (h : Route). h.0) (if is_again o r.0 then heads_after (Some r.0) rs else r ∷ heads_after (Some r.0) rs)) p ⊎ (o ≡ Some p)
    own None p e = inl (inl e)
    own (Some q) p e = by (same_prefix q r.0) refl
      where
        by : (b : Bool) → same_prefix q r.0 ≡ b →
            In (map (λ (h : Route). h.0) (if b then heads_after (Some r.0) rs else r ∷ heads_after (Some r.0) rs)) p ⊎ (Some q ≡ Some p)
        by true d = inr (ap Some (same_tells q r.0 d ∙ e))
        by false d = inl (inl e)

-- 3. They are the ledger's

only_one : {A : Type 0} (first : List A → Option A) (x : A) (xs : List A) → ((y : A) (ys : List A) → first (y ∷ ys) ≡ Some y) → In xs x →
    ((y : A) → In xs y → y ≡ x) → first xs ≡ Some x
only_one first x [] f i same = absurd i
only_one first x (y ∷ ys) f i same = f y ys ∙ ap Some (same y (inl refl))

-- of two routes of one prefix the better is of the preferred source
as_long : (x y : HeldRoute) → x.prefix ≡ y.prefix → is_better x y ≡ is_preferred x.source y.source
as_long x y e =
    ap (λ n. nat_lt n x.prefix.length || ((x.prefix.length == n) && is_preferred x.source y.source)) (sym (ap (λ (p : AddressBlock). p.length) e))
    ∙ ap (λ b. b || ((x.prefix.length == x.prefix.length) && is_preferred x.source y.source)) (not_itself x.prefix.length)
    ∙ ap (λ b. b && is_preferred x.source y.source) (same_test x.prefix.length)
  where
    not_itself : (n : ℕ) → nat_lt n n ≡ false
    not_itself n = grind (arith, nat_tests)

module _ (l : Labels) (routes : List HeldRoute) (held : List Route) (same : SameRoutes l routes held)
    (apart : (a b : HeldRoute) → In routes a → In routes b → a.source ≡ b.source → a.prefix ≡ b.prefix → a ≡ b) where
  -- a route's own test
  with_source : (x y : HeldRoute) → x.prefix ≡ y.prefix → route_before (as_held l x) (as_held l y) ≡ is_preferred x.source y.source
  with_source x y e =
      first_same x.prefix.address y.prefix.address _ (ap (λ (p : AddressBlock). p.address) e)
      ∙ first_same x.prefix.length y.prefix.length _ (ap (λ (p : AddressBlock). p.length) e)
      ∙ preferred_same l x y

  not_back : (x y : HeldRoute) → is_preferred x.source y.source ≡ true → is_preferred y.source x.source ≡ false
  not_back x y h = elim (two_ways (is_preferred y.source x.source)) [
    | inr q ↦ q
    | inl q ↦ absurd (source_order.one_way (as_held l x).1 (as_held l y).1 (preferred_same l x y ∙ h) (preferred_same l y x ∙ q))
  ]

  not_itself : (x y : HeldRoute) → as_held l x ≡ as_held l y → is_preferred y.source x.source ≡ false
  not_itself x y e = elim (two_ways (is_preferred y.source x.source)) [
    | inr q ↦ q
    | inl q ↦
        let b : source_before (as_held l x).1 (as_held l x).1 ≡ true =
        ap (λ (r : Route). source_before r.1 (as_held l x).1) e ∙ preferred_same l y x ∙ q in
        absurd (source_order.one_way (as_held l x).1 (as_held l x).1 b b)
  ]

  abbrev of_prefix : AddressBlock → List HeldRoute
  of_prefix q = filter (λ (route : HeldRoute). same_prefix route.prefix q) routes

  pub head_is_best : (h : Route) → IsHead None held h → Some h ≡ option_map (as_held l) (best_for routes h.0)
  head_is_best h head =
      let found = same.only h head.there in
      let x : HeldRoute = found.0 in
      let prefix : x.prefix ≡ h.0 = ap (λ (r : Route). r.0) found.2 in
      -- none is preferred to it
      let unbeaten_by : (y : HeldRoute) → In (of_prefix h.0) y → is_preferred y.source x.source ≡ false =
      (λ y i.
      let m = in_filter (λ (route : HeldRoute). same_prefix route.prefix h.0) routes y i in
      let its : y.prefix ≡ h.0 = same_tells y.prefix h.0 m.1 in
      elim (head.least (as_held l y) (same.there y m.0) its) [
        | inl b ↦ not_back x y (sym (with_source x y (prefix ∙ sym its)) ∙ ap (λ r. route_before r (as_held l y)) found.2 ∙ b)
        | inr e ↦ not_itself x y (found.2 ∙ e)
      ]) in
      let it : In (of_prefix h.0) x = filter_in (λ (route : HeldRoute). same_prefix route.prefix h.0) routes x found.1 (same_is x.prefix h.0 prefix) in
      let stays : In (unbeaten (of_prefix h.0)) x =
      filter_in (λ route. not (list_any (λ other. is_better other route) (of_prefix h.0))) (of_prefix h.0) x it
      (ap not (passes_none (λ other. is_better other x) (of_prefix h.0) (λ y i.
      as_long y x (same_tells y.prefix h.0 (in_filter (λ (route : HeldRoute). same_prefix route.prefix h.0) routes y i).1 ∙ sym prefix)
      ∙ unbeaten_by y i))) in
      let alone : (y : HeldRoute) → In (unbeaten (of_prefix h.0)) y → y ≡ x =
      (λ y i.
      let u = in_filter (λ route. not (list_any (λ other. is_better other route) (of_prefix h.0))) (of_prefix h.0) y i in
      let m = in_filter (λ (route : HeldRoute). same_prefix route.prefix h.0) routes y u.0 in
      let its : y.prefix ≡ h.0 = same_tells y.prefix h.0 m.1 in
      let not_better : is_preferred x.source y.source ≡ false =
      sym (as_long x y (prefix ∙ sym its))
      ∙ none_passes (λ other. is_better other y) (of_prefix h.0) x (not_so (list_any (λ other. is_better other y) (of_prefix h.0)) u.1) it in
      apart y x m.0 found.1 (pref_neither y.source x.source (unbeaten_by y u.0) not_better) (its ∙ sym prefix)) in
      ap Some (sym found.2) ∙ sym (ap (option_map (as_held l)) (only_one first_of x (unbeaten (of_prefix h.0)) (λ y ys. refl) stays alone))
    where
      not_so : (b : Bool) → not b ≡ true → b ≡ false
      not_so true e = absurd (no e)
      not_so false e = refl

  abbrev its_prefixes : List AddressBlock
  its_prefixes = map (λ (h : Route). h.0) (heads held)

  folded : (ks : List AddressBlock) (xs : List HeldRoute) →
      fold (λ prefixes (route : HeldRoute). with_one comes_before route.prefix prefixes) ks xs
      ≡ fold (λ kept z. with_one prefix_before z kept) ks (map (λ (route : HeldRoute). route.prefix) xs)
  folded ks [] = refl
  folded ks (x ∷ xs) = folded (with_one prefix_before x.prefix ks) xs

  in_one_place : (p q : AddressBlock) → ((prefix_before p q || prefix_before q p) ≡ true) ⊎ (q ≡ p)
  in_one_place p q = elim (two_ways (prefix_before p q || prefix_before q p)) [
    | inl h ↦ inl h
    | inr h ↦ inr (sym (neither p q h))
  ]
    where
      neither : (p q : AddressBlock) → (prefix_before p q || prefix_before q p) ≡ false → p ≡ q
      neither p q h =
          let n = first_neither p.address q.address (nat_lt p.length q.length) (nat_lt q.length p.length) h in
          same_blocks p q n.0 (equal p.length q.length n.1)
        where
          equal : (m n : ℕ) → (nat_lt m n || nat_lt n m) ≡ false → m ≡ n
          equal m n g = grind (arith, nat_tests, g)

  prefixes_are : its_prefixes ≡ prefixes_of routes
  prefixes_are =
      ascending_unique prefix_before prefix_order its_prefixes
      (fold (λ kept z. with_one prefix_before z kept) [] (map (λ (route : HeldRoute). route.prefix) routes))
      (heads_ascend None held same.up)
      (fold_ascends prefix_before [] (map (λ (route : HeldRoute). route.prefix) routes) prefix_order tt)
      (λ p i.
      let m = in_map (λ (h : Route). h.0) (heads held) p i in
      let found = same.only m.0 (heads_are None held same.up tt m.0 m.1).there in
      in_fold prefix_before [] (map (λ (route : HeldRoute). route.prefix) routes) p
      (inr (subst (In (map (λ (route : HeldRoute). route.prefix) routes)) (ap (λ (r : Route). r.0) found.2 ∙ m.2)
      (map_in (λ (route : HeldRoute). route.prefix) routes found.0 found.1)))
      (λ q j. in_one_place p q))
      (λ p i. elim (fold_in prefix_before [] (map (λ (route : HeldRoute). route.prefix) routes) p i) [
        | inl n ↦ absurd n
        | inr j ↦
            let m = in_map (λ (route : HeldRoute). route.prefix) routes p j in
            elim (has_head None held (as_held l m.0) (same.there m.0 m.1)) [
              | inl k ↦ subst (In its_prefixes) m.2 k
              | inr e ↦ absurd (let none : None ≡ Some m.0.prefix → ⊥ = (λ q. cc) in none e)
            ]
      ])
      ∙ sym (folded [] routes)

  at_place : (hs : List Route) (k : ℕ) → AllByRecursion (λ (h : Route). Some h ≡ option_map (as_held l) (best_for routes h.0)) hs →
      slice_get hs k ≡ option_map (as_held l) (best_at routes (slice_get (map (λ (h : Route). h.0) hs) k))
  at_place [] k all = refl
  at_place (h ∷ hs) zero all = all.0
  at_place (h ∷ hs) (suc k) all = at_place hs k all.1

  pub place_told : (k : ℕ) → slice_get (heads held) k ≡ option_map (as_held l) (held_at routes k)
  place_told k =
      at_place (heads held) k (all_from (λ (h : Route). Some h ≡ option_map (as_held l) (best_for routes h.0)) (heads held)
      (λ h i. head_is_best h (heads_are None held same.up tt h i)))
      ∙ ap (λ ps. option_map (as_held l) (best_at routes (slice_get ps k))) prefixes_are
