-- Held routes as they are kept: what they have, that they ascend, and how they change.
use Rattle.std.proofs.Common.{◌≡◌, ◌⊎◌, inl, inr, true, false, cond, List, [], ◌∷◌, ◌++◌, map, Option, Some, None, refl, arith, sym, ◌∙◌, ap, subst}
use Rattle.std.specs.Prelude.{◌==◌, ◌||◌, ◌&&◌, nat_lt}
use Rattle.std.specs.Option.{is_some, IsSome, unwrap_or}
use Rattle.std.specs.Ordering.{is_eq}
use Rattle.std.specs.declared.cmp.Ordering.TheVariants.{Less}
use Rattle.std.specs.List.{AllByRecursion, list_any}
use Rattle.std.specs.List.Sorted.{IsStrictlySortedBy}
use Rattle.std.proofs.lemmas.Bool.Decides.{nat_tests}
use Rattle.mn_base.specs.Ordered.{Ascends, first_by, with_one, without_one}
use Rattle.mn_base.proofs.Bools.{no, two_ways, or_ways, or_left, or_right, and_on, test_same}
use Rattle.mn_base.proofs.Orders.{first_tells, first_less, first_same, first_neither}
use Rattle.mn_base.proofs.Places.{ascends_append}
use Rattle.mn_base.proofs.Members.{In, in_map, map_in, in_flat_map, flat_map_in, in_filter, filter_in, all_in as in_all}
use Rattle.mn_base.proofs.Kept.{with_in, in_with_new, in_with, with_is, without_is}
use Rattle.mn_prefix.specs.Prefix.{AddressBlock, same_prefix, by_address_then_length, prefix_before}
use Rattle.mn_prefix.specs.Table.{value_at, ChangesOnly}
use Rattle.mn_prefix.proofs.Tables.{same_is, same_exact}
use Rattle.mn_vrf.specs.declared.source.Source.{Source}
use Rattle.mn_vrf.specs.Routes.{source_before, route_before}
use Rattle.mn_vrf.specs.Kept.{those, routes_at, in_order, AreSources, IsKept}
use Rattle.mn_vrf.proofs.Orders.{route_order}

-- 1. Members of lists
pub all_in : {A : Type 0} (P : A → Type 0) (xs : List A) → ((x : A) → In xs x → P x) → AllByRecursion P xs
all_in P [] h = tt
all_in P (x ∷ xs) h = (h x (inl refl), all_in P xs (λ y i. h y (inr i)))

pub any_in : (p : AddressBlock) (ks : List AddressBlock) → list_any (same_prefix p) ks ≡ true → In ks p
any_in p [] h = absurd (no h)
any_in p (k ∷ ks) h = elim (or_ways (same_prefix p k) (list_any (same_prefix p) ks) h) [ inl e ↦ inl (sym (same_exact p k e)) | inr e ↦ inr (any_in p ks e) ]

pub in_any : (p : AddressBlock) (ks : List AddressBlock) → In ks p → list_any (same_prefix p) ks ≡ true
in_any p [] i = absurd i
in_any p (k ∷ ks) i = elim i [
  | inl e ↦ or_left (same_prefix p k) (list_any (same_prefix p) ks) (subst (λ q. same_prefix p q ≡ true) (sym e) (same_is.refl p))
  | inr j ↦ or_right (same_prefix p k) (list_any (same_prefix p) ks) (in_any p ks j)
]

-- 2. The order
-- routes of one prefix go by preference
pub of_one : (p : AddressBlock) (s r : Source) → route_before (p, s) (p, r) ≡ source_before s r
of_one p s r = first_same p.address p.address (first_by p.length p.length (source_before s r)) refl ∙ first_same p.length p.length (source_before s r) refl

pub of_two : (p q : AddressBlock) (s r : Source) → prefix_before p q ≡ true → route_before (p, s) (q, r) ≡ true
of_two p q s r h = elim (first_tells p.address q.address (nat_lt p.length q.length) h) [
  | inl less ↦ first_less p.address q.address (first_by p.length q.length (source_before s r)) less
  | inr both ↦ first_same p.address q.address (first_by p.length q.length (source_before s r)) both.0
      ∙ ap (λ b. b || ((p.length == q.length) && source_before s r)) both.1
]

-- of routes of two prefixes one comes before the other
pub apart_routes : (p q : AddressBlock) (s r : Source) → same_prefix p q ≡ false → (route_before (q, r) (p, s) || route_before (p, s) (q, r)) ≡ true
apart_routes p q s r apart = split (two_ways (route_before (q, r) (p, s) || route_before (p, s) (q, r)))
  where
    split : ((route_before (q, r) (p, s) || route_before (p, s) (q, r)) ≡ true) ⊎ ((route_before (q, r) (p, s) || route_before (p, s) (q, r)) ≡ false) →
        (route_before (q, r) (p, s) || route_before (p, s) (q, r)) ≡ true
    split (inl h) = h
    split (inr h) =
        let addresses = first_neither q.address p.address (first_by q.length p.length (source_before r s)) (first_by p.length q.length (source_before s r)) h in
        let lengths = first_neither q.length p.length (source_before r s) (source_before s r) addresses.1 in
        absurd (no (sym apart ∙ and_on (p.address == q.address) (p.length == q.length) (test_same p.address q.address (sym addresses.0))
        (test_same p.length q.length (sym lengths.0))))

-- as an ordered set has it
pub alike_prefix : (p q : AddressBlock) → is_eq (by_address_then_length p q) ≡ same_prefix p q
alike_prefix p q = grind (arith, nat_tests)

below_prefix : (p q : AddressBlock) → by_address_then_length p q ≡ Less → prefix_before p q ≡ true
below_prefix p q h = grind (arith, nat_tests, h)

pub sorted_ascends : (ks : List AddressBlock) → IsStrictlySortedBy by_address_then_length ks → Ascends prefix_before ks
unfolding IsStrictlySortedBy
sorted_ascends [] h = tt
sorted_ascends (k ∷ ks) h = (
  all_in (λ q. prefix_before k q ≡ true) ks (λ q i. below_prefix k q (in_all (λ q. by_address_then_length k q ≡ Less) ks q h.0 i)),
  sorted_ascends ks
      h.1,
)

pub before_apart : (p q : AddressBlock) → prefix_before p q ≡ true → same_prefix p q ≡ false
before_apart p q h = grind (arith, nat_tests, h)

-- 3. What is kept
in_those : (p : AddressBlock) (s : Source) (table : List (AddressBlock × List Source)) → In (those p table) s → is_some (value_at p table) ≡ true
in_those p s table i = by (value_at p table) i
  where
    by : (o : Option (List Source)) → In (unwrap_or o []) s → is_some o ≡ true
    by None j = absurd j
    by (Some ss) j = refl

pub in_view : (table : List (AddressBlock × List Source)) (ks : List AddressBlock) (route : AddressBlock × Source) → In (in_order table ks) route →
    In ks route.0 × In (those route.0 table) route.1
in_view table ks route i =
    let there = in_flat_map (routes_at table) ks route i in
    let source = in_map (λ s. (there.0, s)) (those there.0 table) route there.2 in
    subst (λ (r : AddressBlock × Source). In ks r.0 × In (those r.0 table) r.1) source.2 (there.1, source.1)

pub view_in : (table : List (AddressBlock × List Source)) (ks : List AddressBlock) (p : AddressBlock) (s : Source) → IsKept table ks →
    In (those p table) s → In (in_order table ks) (p, s)
view_in table ks p s kept i =
    flat_map_in (routes_at table) ks p (p, s) (any_in p ks (sym (kept.same p) ∙ in_those p s table i)) (map_in (λ s. (p, s)) (those p table) s i)

ascend_those : (p : AddressBlock) (table : List (AddressBlock × List Source)) (ks : List AddressBlock) → IsKept table ks → Ascends source_before (those p table)
ascend_those p table ks kept = by (value_at p table) (λ ss e. (kept.each p ss e).ascend)
  where
    by : (o : Option (List Source)) → ((ss : List Source) → o ≡ Some ss → Ascends source_before ss) → Ascends source_before (unwrap_or o [])
    by None f = tt
    by (Some ss) f = f ss refl

pub view_ascends : (table : List (AddressBlock × List Source)) (ks : List AddressBlock) → IsKept table ks → Ascends route_before (in_order table ks)
view_ascends table ks kept = go ks kept.ascend
  where
    of_prefix : (p : AddressBlock) (ss : List Source) → Ascends source_before ss → Ascends route_before (map (λ s. (p, s)) ss)
    of_prefix p [] h = tt
    of_prefix p (s ∷ ss) h = (
      all_in (λ r. route_before (p, s) r ≡ true) (map (λ s. (p, s)) ss) (λ r i.
          let there = in_map (λ s. (p, s)) ss r i in
          subst (λ r. route_before (p, s) r ≡ true) there.2 (of_one p s there.0 ∙ in_all (λ t. source_before s t ≡ true) ss there.0 h.0 there.1)),
      of_prefix p ss h.1,
    )

    go : (ks : List AddressBlock) → Ascends prefix_before ks → Ascends route_before (in_order table ks)
    go [] h = tt
    go (k ∷ ks) h =
        ascends_append route_before (routes_at table k) (in_order table ks) (of_prefix k (those k table) (ascend_those k table _ kept)) (go ks h.1)
        (all_in (λ x. AllByRecursion (λ y. route_before x y ≡ true) (in_order table ks)) (routes_at table k)
        (λ x i. all_in (λ y. route_before x y ≡ true) (in_order table ks) (λ y j.
        let here = in_map (λ s. (k, s)) (those k table) x i in
        let there = in_view table ks y j in
        subst (λ x. route_before x y ≡ true) here.2 (of_two k y.0 here.0 y.1 (in_all (λ q. prefix_before k q ≡ true) ks y.0 h.0 there.0)))))

-- 4. Changes
module _ (old new : List (AddressBlock × List Source)) (ks js : List AddressBlock) (was : IsKept old ks) (is : IsKept new js) (p : AddressBlock)
    (s : Source) (others : (q : AddressBlock) → same_prefix p q ≡ false → those q new ≡ those q old) where
  x : AddressBlock × Source
  x = (p, s)

  same_now : (q : AddressBlock) → (same_prefix p q ≡ true) ⊎ (same_prefix p q ≡ false)
  same_now q = two_ways (same_prefix p q)

  -- a route of another prefix is where it was
  other_stays : (q : AddressBlock) (r : Source) → same_prefix p q ≡ false → In (in_order old ks) (q, r) → In (in_order new js) (q, r)
  other_stays q r apart i = view_in new js q r is (subst (λ ss. In ss r) (sym (others q apart)) (in_view old ks (q, r) i).1)

  other_was : (q : AddressBlock) (r : Source) → same_prefix p q ≡ false → In (in_order new js) (q, r) →
      In (in_order old ks) (q, r) × ((route_before (q, r) (p, s) || route_before (p, s) (q, r)) ≡ true)
  other_was q r apart i = (view_in old ks q r was (subst (λ ss. In ss r) (others q apart) (in_view new js (q, r) i).1), apart_routes p q s r apart)

  same_apart : (r : Source) → (source_before r s || source_before s r) ≡ (route_before (p, r) (p, s) || route_before (p, s) (p, r))
  same_apart r = ap (λ b. b || source_before s r) (sym (of_one p r s)) ∙ ap (λ b. route_before (p, r) (p, s) || b) (sym (of_one p s r))

  -- so is one of this prefix whose source stands apart and is there still
  onward : ((r : Source) → In (those p old) r → (source_before r s || source_before s r) ≡ true → In (those p new) r) → (z : AddressBlock × Source) →
      In (in_order old ks) z → (route_before z (p, s) || route_before (p, s) z) ≡ true → (same_prefix p z.0 ≡ true) ⊎ (same_prefix p z.0 ≡ false) →
      In (in_order new js) z
  onward stays z i apart (inr other) = other_stays z.0 z.1 other i
  onward stays z i apart (inl same) =
      let here : p ≡ z.0 = same_exact p z.0 same in
      subst (λ q. In (in_order new js) (q, z.1)) here
      (view_in new js p z.1 is (stays z.1 (subst (λ q. In (those q old) z.1) (sym here) (in_view old ks z i).1)
      (same_apart z.1 ∙ subst (λ q. (route_before (q, z.1) (p, s) || route_before (p, s) (q, z.1)) ≡ true) (sym here) apart)))

  pub with_source : those p new ≡ with_one source_before s (those p old) → in_order new js ≡ with_one route_before (p, s) (in_order old ks)
  with_source h =
      with_is route_before route_order (p, s) (in_order old ks) (in_order new js) (view_ascends old ks was) (view_ascends new js is)
      (view_in new js p s is (subst (λ ss. In ss s) (sym h) (in_with_new source_before s (those p old))))
      (λ z i apart. onward (λ r j away. subst (λ ss. In ss r) (sym h) (in_with source_before s (those p old) r j away)) z i apart (same_now z.0))
      (λ z i. back z i (same_now z.0))
    where
      back : (z : AddressBlock × Source) → In (in_order new js) z → (same_prefix p z.0 ≡ true) ⊎ (same_prefix p z.0 ≡ false) →
          ((p, s) ≡ z) ⊎ (In (in_order old ks) z × ((route_before z (p, s) || route_before (p, s) z) ≡ true))
      back z i (inr other) = inr (other_was z.0 z.1 other i)
      back z i (inl same) =
          let here : p ≡ z.0 = same_exact p z.0 same in
          elim (with_in source_before s (those p old) z.1 (subst (λ ss. In ss z.1) h (subst (λ q. In (those q new) z.1) (sym here) (in_view new js z i).1))) [
            | inl e ↦ inl (ap (λ q. (q, s)) here ∙ ap (λ r. (z.0, r)) e)
            | inr m ↦ inr (subst (λ q. In (in_order old ks) (q, z.1) × ((route_before (q, z.1) (p, s) || route_before (p, s) (q, z.1)) ≡ true)) here
                (view_in old ks p z.1 was m.0, sym (same_apart z.1) ∙ m.1))
          ]

  pub without_source : those p new ≡ without_one source_before s (those p old) → in_order new js ≡ without_one route_before (p, s) (in_order old ks)
  without_source h =
      without_is route_before route_order (p, s) (in_order old ks) (in_order new js) (view_ascends old ks was) (view_ascends new js is)
      (λ z i apart. onward (λ r j away. subst (λ ss. In ss r) (sym h)
      (filter_in (λ x. source_before x s || source_before s x) (those p old) r j away)) z i apart (same_now z.0))
      (λ z i. back z i (same_now z.0))
    where
      back : (z : AddressBlock × Source) → In (in_order new js) z →
          (same_prefix p z.0 ≡ true) ⊎ (same_prefix p z.0 ≡ false) → In (in_order old ks) z × ((route_before z (p, s) || route_before (p, s) z) ≡ true)
      back z i (inr other) = other_was z.0 z.1 other i
      back z i (inl same) =
          let here : p ≡ z.0 = same_exact p z.0 same in
          let m = in_filter (λ r. source_before r s || source_before s r) (those p old) z.1
          (subst (λ ss. In ss z.1) h (subst (λ q. In (those q new) z.1) (sym here) (in_view new js z i).1)) in
          subst (λ q. In (in_order old ks) (q, z.1) × ((route_before (q, z.1) (p, s) || route_before (p, s) (q, z.1)) ≡ true)) here
          (view_in old ks p z.1 was m.0, sym (same_apart z.1) ∙ m.1)

-- a table that has the same of each prefix
pub same_view : (old new : List (AddressBlock × List Source)) (ks : List AddressBlock) →
    ((q : AddressBlock) → value_at q new ≡ value_at q old) → in_order new ks ≡ in_order old ks
same_view old new [] h = refl
same_view old new (k ∷ ks) h =
    ap (λ o. map (λ s. (k, s)) (unwrap_or o []) ++ in_order new ks) (h k) ∙ ap (λ rest. routes_at old k ++ rest) (same_view old new ks h)

-- what one change leaves of a table is kept
pub kept_changed : (old new : List (AddressBlock × List Source)) (ks js : List AddressBlock) (p : AddressBlock) (value : Option (List Source)) →
    IsKept old ks → ChangesOnly old new p value
    → ((q : AddressBlock) → list_any (same_prefix q) js ≡ cond (same_prefix p q) (is_some value) (list_any (same_prefix q) ks)) → Ascends prefix_before js →
    ((ss : List Source) → value ≡ Some ss → AreSources ss) → IsKept new js
kept_changed old new ks js p value kept change keys ascend sources = record {
  ascend = ascend;
  same = λ q. by_prefix q (two_ways (same_prefix p q));
  each = λ q ss e. source_ways q ss e (two_ways (same_prefix p q));
}
  where
    by_prefix : (q : AddressBlock) → (same_prefix p q ≡ true) ⊎ (same_prefix p q ≡ false) → is_some (value_at q new) ≡ list_any (same_prefix q) js
    by_prefix q (inl same) =
        ap (λ r. is_some (value_at r new)) (sym (same_exact p q same)) ∙ ap is_some change.changed
        ∙ sym (keys q ∙ ap (λ b. cond b (is_some value) (list_any (same_prefix q) ks)) same)
    by_prefix q (inr other) =
        ap is_some (change.others q other) ∙ kept.same q ∙ sym (keys q ∙ ap (λ b. cond b (is_some value) (list_any (same_prefix q) ks)) other)

    source_ways : (q : AddressBlock) (ss : List Source) → value_at q new ≡ Some ss → (same_prefix p q ≡ true) ⊎ (same_prefix p q ≡ false) → AreSources ss
    source_ways q ss e (inl same) = sources ss (sym change.changed ∙ ap (λ r. value_at r new) (same_exact p q same) ∙ e)
    source_ways q ss e (inr other) = kept.each q ss (sym (change.others q other) ∙ e)

pub changes_twice : (a b c : List (AddressBlock × List Source)) (p : AddressBlock) (v w : Option (List Source)) → ChangesOnly a b p v →
    ChangesOnly b c p w → ChangesOnly a c p w
changes_twice a b c p v w first second = record { changed = second.changed; others = λ q apart. second.others q apart ∙ first.others q apart }

-- as it was
pub changed_back : (old new : List (AddressBlock × List Source)) (p : AddressBlock) → ChangesOnly old new p (value_at p old) →
    (q : AddressBlock) → value_at q new ≡ value_at q old
changed_back old new p change q = by (two_ways (same_prefix p q))
  where
    by : (same_prefix p q ≡ true) ⊎ (same_prefix p q ≡ false) → value_at q new ≡ value_at q old
    by (inl same) = subst (λ r. value_at r new ≡ value_at r old) (same_exact p q same) change.changed
    by (inr other) = change.others q other

pub same_keys : (table : List (AddressBlock × List Source)) (ks : List AddressBlock) (p : AddressBlock) → IsKept table ks → IsSome (value_at p table) →
    (q : AddressBlock) → list_any (same_prefix q) ks ≡ cond (same_prefix p q) true (list_any (same_prefix q) ks)
same_keys table ks p kept there q = by (two_ways (same_prefix p q))
  where
    by : (same_prefix p q ≡ true) ⊎ (same_prefix p q ≡ false) → list_any (same_prefix q) ks ≡ cond (same_prefix p q) true (list_any (same_prefix q) ks)
    by (inl same) =
        subst (λ r. list_any (same_prefix r) ks ≡ true) (same_exact p q same) (sym (kept.same p) ∙ there)
        ∙ sym (ap (λ b. cond b true (list_any (same_prefix q) ks)) same)
    by (inr other) = sym (ap (λ b. cond b true (list_any (same_prefix q) ks)) other)

pub kept_same : (old new : List (AddressBlock × List Source)) (ks : List AddressBlock) → IsKept old ks →
    ((q : AddressBlock) → value_at q new ≡ value_at q old) → IsKept new ks
kept_same old new ks kept h = record {
  ascend = kept.ascend;
  same = λ q. ap is_some (h q) ∙ kept.same q;
  each = λ q ss e. kept.each q ss (sym (h q) ∙ e);
}
