-- What is found among held routes as they are kept: the routes of a prefix, the first of each, and the longest match.
use Rattle.std.proofs.Common.{ℕ, zero, suc, ◌≡◌, ◌<◌, ◌⊎◌, inl, inr, Bool, true, false, cond, List, [], ◌∷◌, ◌++◌, map, filter, length, Option, Some, None}
use Rattle.std.proofs.Common.{refl, arith, sym, ◌∙◌, ap, subst}
use Rattle.std.specs.Prelude.{◌||◌, ◌&&◌, nat_lt, fold, slice_get, if◌then◌else◌}
use Rattle.std.specs.Option.{is_some, unwrap_or, option_map, option_or}
use Rattle.std.specs.List.{AllByRecursion, list_any, flat_map, IsDistinct}
use Rattle.std.specs.Map.{keys_of}
use Rattle.std.proofs.lemmas.List.{map-append}
use Rattle.std.proofs.lemmas.List.Elements.{filter-append}
use Rattle.std.proofs.lemmas.List.Sums.{fold-append}
use Rattle.std.proofs.lemmas.Option.{same_Some}
use Rattle.mn_base.specs.Ordered.{Ascends, one_at}
use Rattle.mn_base.proofs.Bools.{no, two_ways, or_off, less_itself}
use Rattle.mn_base.proofs.Members.{In}
use Rattle.mn_prefix.specs.Prefix.{AddressBlock, IsPrefix, same_prefix, prefix_before, contains}
use Rattle.mn_prefix.specs.Table.{IsTable, IsLongestMatch, value_at, first_of, longest_match}
use Rattle.mn_prefix.proofs.Tables.{same_is, same_exact}
use Rattle.mn_lpm.proofs.LookUps.{form_of}
use Rattle.mn_prefix.proofs.Matches.{longest_some, longest_none}
use Rattle.mn_vrf.specs.declared.source.Source.{Source}
use Rattle.mn_vrf.specs.Routes.{source_before, route_before, is_that, is_source, is_held, has_source, sources_of, unless_empty}
use Rattle.mn_vrf.specs.Vrf.{heads, heads_after, is_again}
use Rattle.mn_vrf.specs.Kept.{those, routes_at, in_order, IsKept}
use Rattle.mn_vrf.proofs.Choices.{chosen, chosen_is}
use Rattle.mn_vrf.proofs.Keeping.{in_any, of_one, apart_routes, before_apart}

abbrev Table : Type 0
Table = List (AddressBlock × List Source)

-- prefixes in order are distinct
none_behind : (k : AddressBlock) (ks : List AddressBlock) → AllByRecursion (λ q. prefix_before k q ≡ true) ks → list_any (same_prefix k) ks ≡ false
none_behind k [] h = refl
none_behind k (q ∷ ks) h = ap (λ b. b || list_any (same_prefix k) ks) (before_apart k q h.0) ∙ none_behind k ks h.1

-- 1. The sources of a prefix
sources_append : (p : AddressBlock) (xs ys : List (AddressBlock × Source)) → sources_of p (xs ++ ys) ≡ sources_of p xs ++ sources_of p ys
sources_append p xs ys =
    ap (λ rs. map (λ (r : AddressBlock × Source). r.1) rs) (filter-append (λ (r : AddressBlock × Source). same_prefix p r.0) xs ys)
    ∙ map-append (λ (r : AddressBlock × Source). r.1) (filter (λ (r : AddressBlock × Source). same_prefix p r.0) xs)
    (filter (λ (r : AddressBlock × Source). same_prefix p r.0) ys)

pub sources_same : (p q : AddressBlock) (ss : List Source) → same_prefix p q ≡ true → sources_of p (map (λ s. (q, s)) ss) ≡ ss
sources_same p q [] h = refl
sources_same p q (s ∷ ss) h =
    ap (λ b. map (λ (r : AddressBlock × Source). r.1)
    (cond b ((q, s) ∷ filter (λ (r : AddressBlock × Source). same_prefix p r.0) (map (λ s. (q, s)) ss))
    (filter (λ (r : AddressBlock × Source). same_prefix p r.0) (map (λ s. (q, s)) ss)))) h
    ∙ ap (λ rs. s ∷ rs) (sources_same p q ss h)

sources_other : (p q : AddressBlock) (ss : List Source) → same_prefix p q ≡ false → sources_of p (map (λ s. (q, s)) ss) ≡ []
sources_other p q [] h = refl
sources_other p q (s ∷ ss) h =
    ap (λ b. map (λ (r : AddressBlock × Source). r.1)
    (cond b ((q, s) ∷ filter (λ (r : AddressBlock × Source). same_prefix p r.0) (map (λ s. (q, s)) ss))
    (filter (λ (r : AddressBlock × Source). same_prefix p r.0) (map (λ s. (q, s)) ss)))) h
    ∙ sources_other p q ss h

module _ (table : Table) (p : AddressBlock) where
  none_of : (ks : List AddressBlock) → list_any (same_prefix p) ks ≡ false → sources_of p (in_order table ks) ≡ []
  none_of [] h = refl
  none_of (k ∷ ks) h =
      let parts = or_off (same_prefix p k) (list_any (same_prefix p) ks) h in
      sources_append p (routes_at table k) (in_order table ks)
      ∙ ap (λ ss. ss ++ sources_of p (in_order table ks)) (sources_other p k (those k table) parts.0)
      ∙ none_of ks parts.1

  append_none : (ss : List Source) → ss ++ [] ≡ ss
  append_none [] = refl
  append_none (s ∷ ss) = ap (λ rs. s ∷ rs) (append_none ss)

  some_of : (ks : List AddressBlock) → Ascends prefix_before ks → list_any (same_prefix p) ks ≡ true → sources_of p (in_order table ks) ≡ those p table
  some_of [] up h = absurd (no h)
  some_of (k ∷ ks) up h = sources_append p (routes_at table k) (in_order table ks) ∙ split (two_ways (same_prefix p k)) (some_of ks up.1)
    where
      split : ((same_prefix p k ≡ true) ⊎ (same_prefix p k ≡ false)) →
          (list_any (same_prefix p) ks ≡ true → sources_of p (in_order table ks) ≡ those p table) →
          sources_of p (routes_at table k) ++ sources_of p (in_order table ks) ≡ those p table
      split (inl same) more =
          let here : p ≡ k = same_exact p k same in
          ap (λ ss. ss ++ sources_of p (in_order table ks)) (sources_same p k (those k table) same)
          ∙ ap (λ ss. those k table ++ ss) (none_of ks (subst (λ q. list_any (same_prefix q) ks ≡ false) (sym here) (none_behind k ks up.0)))
          ∙ append_none (those k table)
          ∙ ap (λ q. those q table) (sym here)
      split (inr other) more =
          ap (λ ss. ss ++ sources_of p (in_order table ks)) (sources_other p k (those k table) other)
          ∙ more (sym (ap (λ b. b || list_any (same_prefix p) ks) other) ∙ h)

none_there : (o : Option (List Source)) → is_some o ≡ false → unwrap_or o [] ≡ []
none_there None h = refl
none_there (Some ss) h = absurd (no (sym h))

pub sources_are : (table : Table) (ks : List AddressBlock) (p : AddressBlock) → IsKept table ks → sources_of p (in_order table ks) ≡ those p table
sources_are table ks p kept = split (two_ways (list_any (same_prefix p) ks))
  where
    split : ((list_any (same_prefix p) ks ≡ true) ⊎ (list_any (same_prefix p) ks ≡ false)) → sources_of p (in_order table ks) ≡ those p table
    split (inl h) = some_of table p ks kept.ascend h
    split (inr h) = none_of table p ks h ∙ sym (none_there (value_at p table) (kept.same p ∙ h))

pub table_is : (table : Table) (ks : List AddressBlock) (p : AddressBlock) → IsKept table ks →
    value_at p table ≡ unless_empty (sources_of p (in_order table ks))
table_is table ks p kept = by (value_at p table) (λ ss e. (kept.each p ss e).some) ∙ ap unless_empty (sym (sources_are table ks p kept))
  where
    by : (o : Option (List Source)) → ((ss : List Source) → o ≡ Some ss → 0 < length ss) → o ≡ unless_empty (unwrap_or o [])
    by None f = refl
    by (Some []) f = absurd (omega (arith, f [] refl))
    by (Some (s ∷ ss)) f = refl

-- 2. The route in a place
one_append : (x : AddressBlock × Source) (xs ys : List (AddressBlock × Source)) →
    one_at route_before x (xs ++ ys) ≡ option_or (one_at route_before x xs) (one_at route_before x ys)
one_append x [] ys = refl
one_append x (y ∷ xs) ys = split (route_before y x || route_before x y) (one_append x xs ys)
  where
    split : (b : Bool) → one_at route_before x (xs ++ ys) ≡ option_or (one_at route_before x xs) (one_at route_before x ys)
        → (if b then one_at route_before x (xs ++ ys) else Some y) ≡ option_or (if b then one_at route_before x xs else Some y) (one_at route_before x ys)
    split true more = more
    split false more = refl

one_same : (p : AddressBlock) (s : Source) (ss : List Source) →
    one_at route_before (p, s) (map (λ s. (p, s)) ss) ≡ option_map (λ r. (p, r)) (one_at source_before s ss)
one_same p s [] = refl
one_same p s (r ∷ ss) =
    ap (λ b. if b then one_at route_before (p, s) (map (λ s. (p, s)) ss) else Some (p, r)) (ap (λ b. b || route_before (p, s) (p, r)) (of_one p r s)
    ∙ ap (λ b. source_before r s || b) (of_one p s r))
    ∙ split (source_before r s || source_before s r) (one_same p s ss)
  where
    split : (b : Bool) → one_at route_before (p, s) (map (λ s. (p, s)) ss) ≡ option_map (λ r. (p, r)) (one_at source_before s ss)
        → (if b then one_at route_before (p, s) (map (λ s. (p, s)) ss) else Some (p, r)) ≡ option_map (λ r. (p, r))
        (if b then one_at source_before s ss else Some r)
    split true more = more
    split false more = refl

one_other : (p q : AddressBlock) (s : Source) (ss : List Source) → same_prefix p q ≡ false → one_at route_before (p, s) (map (λ s. (q, s)) ss) ≡ None
one_other p q s [] h = refl
one_other p q s (r ∷ ss) h =
    ap (λ b. if b then one_at route_before (p, s) (map (λ s. (q, s)) ss) else Some (q, r)) (apart_routes p q s r h) ∙ one_other p q s ss h

module _ (table : Table) (p : AddressBlock) (s : Source) where
  no_one : (ks : List AddressBlock) → list_any (same_prefix p) ks ≡ false → one_at route_before (p, s) (in_order table ks) ≡ None
  no_one [] h = refl
  no_one (k ∷ ks) h =
      let parts = or_off (same_prefix p k) (list_any (same_prefix p) ks) h in
      one_append (p, s) (routes_at table k) (in_order table ks)
      ∙ ap (λ o. option_or o (one_at route_before (p, s) (in_order table ks))) (one_other p k s (those k table) parts.0)
      ∙ no_one ks parts.1

  or_nothing : (o : Option (AddressBlock × Source)) → option_or o None ≡ o
  or_nothing None = refl
  or_nothing (Some r) = refl

  some_one : (ks : List AddressBlock) → Ascends prefix_before ks → list_any (same_prefix p) ks ≡ true →
      one_at route_before (p, s) (in_order table ks) ≡ option_map (λ r. (p, r)) (one_at source_before s (those p table))
  some_one [] up h = absurd (no h)
  some_one (k ∷ ks) up h = one_append (p, s) (routes_at table k) (in_order table ks) ∙ split (two_ways (same_prefix p k)) (some_one ks up.1)
    where
      split : ((same_prefix p k ≡ true) ⊎ (same_prefix p k ≡ false)) →
          (list_any (same_prefix p) ks ≡ true →
          one_at route_before (p, s) (in_order table ks) ≡ option_map (λ r. (p, r)) (one_at source_before s (those p table)))
          → option_or (one_at route_before (p, s) (routes_at table k)) (one_at route_before (p, s) (in_order table ks)) ≡ option_map (λ r. (p, r))
          (one_at source_before s (those p table))
      split (inl same) more =
          let here : p ≡ k = same_exact p k same in
          ap (option_or (one_at route_before (p, s) (routes_at table k)))
          (no_one ks (subst (λ q. list_any (same_prefix q) ks ≡ false) (sym here) (none_behind k ks up.0)))
          ∙ or_nothing (one_at route_before (p, s) (routes_at table k))
          ∙ ap (λ q. one_at route_before (p, s) (routes_at table q)) (sym here)
          ∙ one_same p s (those p table)
      split (inr other) more =
          ap (λ o. option_or o (one_at route_before (p, s) (in_order table ks))) (one_other p k s (those k table) other)
          ∙ more (sym (ap (λ b. b || list_any (same_prefix p) ks) other) ∙ h)

pub one_is : (table : Table) (ks : List AddressBlock) (p : AddressBlock) (s : Source) → IsKept table ks →
    one_at route_before (p, s) (in_order table ks) ≡ option_map (λ r. (p, r)) (one_at source_before s (those p table))
one_is table ks p s kept = split (two_ways (list_any (same_prefix p) ks))
  where
    split : ((list_any (same_prefix p) ks ≡ true) ⊎ (list_any (same_prefix p) ks ≡ false)) →
        one_at route_before (p, s) (in_order table ks) ≡ option_map (λ r. (p, r)) (one_at source_before s (those p table))
    split (inl h) = some_one table p s ks kept.ascend h
    split (inr h) =
        no_one table p s ks h ∙ sym (ap (λ ss. option_map (λ r. (p, r)) (one_at source_before s ss)) (none_there (value_at p table) (kept.same p ∙ h)))

pub held_is : (table : Table) (ks : List AddressBlock) (p : AddressBlock) (s : Source) → IsKept table ks →
    is_held (p, s) (in_order table ks) ≡ has_source s (those p table)
held_is table ks p s kept = ap (is_that s) (one_is table ks p s kept) ∙ by (one_at source_before s (those p table))
  where
    by : (o : Option Source) → is_that s (option_map (λ r. (p, r)) o) ≡ is_source s o
    by None = refl
    by (Some r) = refl

-- 3. The first route of each prefix
abbrev pub top_of : AddressBlock → List Source → List (AddressBlock × Source)
top_of p [] = []
top_of p (s ∷ ss) = (p, s) ∷ []

abbrev tops : Table → List AddressBlock → List (AddressBlock × Source)
tops table ks = flat_map (λ k. top_of k (those k table)) ks

again_passed : (k : AddressBlock) (ss : List Source) (rest : List (AddressBlock × Source)) →
    heads_after (Some k) (map (λ s. (k, s)) ss ++ rest) ≡ heads_after (Some k) rest
again_passed k [] rest = refl
again_passed k (s ∷ ss) rest =
    ap (λ b. if b then heads_after (Some k) (map (λ s. (k, s)) ss ++ rest) else (k, s) ∷ heads_after (Some k) (map (λ s. (k, s)) ss ++ rest)) (same_is.refl k)
    ∙ again_passed k ss rest

heads_from : (table : Table) (last : Option AddressBlock) (ks : List AddressBlock) → Ascends prefix_before ks →
    AllByRecursion (λ k. is_again last k ≡ false) ks → AllByRecursion (λ k. 0 < length (those k table)) ks →
    heads_after last (in_order table ks) ≡ tops table ks
heads_from table last [] up new filled = refl
heads_from table last (k ∷ ks) up new filled =
    by (those k table) filled.0 ∙ ap (λ rest. top_of k (those k table) ++ rest) (heads_from table (Some k) ks up.1 (all_apart ks up.0) filled.1)
  where
    all_apart : (qs : List AddressBlock) → AllByRecursion (λ q. prefix_before k q ≡ true) qs → AllByRecursion (λ q. is_again (Some k) q ≡ false) qs
    all_apart [] h = tt
    all_apart (q ∷ qs) h = (before_apart k q h.0, all_apart qs h.1)

    by : (ss : List Source) → 0 < length ss →
        heads_after last (map (λ s. (k, s)) ss ++ in_order table ks) ≡ top_of k ss ++ heads_after (Some k) (in_order table ks)
    by [] h = absurd (omega (arith, h))
    by (s ∷ ss) h =
        ap (λ b. if b then heads_after (Some k) (map (λ s. (k, s)) ss ++ in_order table ks) else (k, s)
        ∷ heads_after (Some k) (map (λ s. (k, s)) ss ++ in_order table ks)) new.0
        ∙ ap (λ rest. (k, s) ∷ rest) (again_passed k ss (in_order table ks))

filled_from : (table : Table) (ks js : List AddressBlock) → IsKept table ks →
    ((k : AddressBlock) → In js k → In ks k) → AllByRecursion (λ k. 0 < length (those k table)) js
filled_from table ks [] kept h = tt
filled_from table ks (k ∷ js) kept h = (
  by (value_at k table) (kept.same k ∙ in_any k ks (h k (inl refl))) (λ ss e. (kept.each k ss e).some),
  filled_from table ks js kept
      (λ q i. h q (inr i)),
)
  where
    by : (o : Option (List Source)) → is_some o ≡ true → ((ss : List Source) → o ≡ Some ss → 0 < length ss) → 0 < length (unwrap_or o [])
    by None e f = absurd (no e)
    by (Some ss) e f = f ss refl

none_again : (ks : List AddressBlock) → AllByRecursion (λ k. is_again None k ≡ false) ks
none_again [] = tt
none_again (k ∷ ks) = (refl, none_again ks)

pub heads_are : (table : Table) (ks : List AddressBlock) → IsKept table ks → heads (in_order table ks) ≡ tops table ks
heads_are table ks kept = heads_from table None ks kept.ascend (none_again ks) (filled_from table ks ks kept (λ k i. i))

pub top_none : (table : Table) (ks : List AddressBlock) (k : ℕ) → AllByRecursion (λ q. 0 < length (those q table)) ks → slice_get ks k ≡ None →
    slice_get (tops table ks) k ≡ None
top_none table [] k filled h = refl
top_none table (q ∷ ks) zero filled h = cc
top_none table (q ∷ ks) (suc k) filled h = by (those q table) filled.0 (top_none table ks k filled.1 h)
  where
    by : (ss : List Source) → 0 < length ss → slice_get (tops table ks) k ≡ None → slice_get (top_of q ss ++ tops table ks) (suc k) ≡ None
    by [] some more = absurd (omega (arith, some))
    by (s ∷ ss) some more = more

pub top_some : (table : Table) (ks : List AddressBlock) (k : ℕ) (p : AddressBlock) → AllByRecursion (λ q. 0 < length (those q table)) ks →
    slice_get ks k ≡ Some p → slice_get (tops table ks) k ≡ option_map (λ s. (p, s)) (first_of (those p table))
top_some table [] k p filled h = cc
top_some table (q ∷ ks) zero p filled h = by (those q table) filled.0 ∙ ap (λ k. option_map (λ s. (k, s)) (first_of (those k table))) (same_Some q p h)
  where
    by : (ss : List Source) → 0 < length ss → slice_get (top_of q ss ++ tops table ks) zero ≡ option_map (λ s. (q, s)) (first_of ss)
    by [] some = absurd (omega (arith, some))
    by (s ∷ ss) some = refl
top_some table (q ∷ ks) (suc k) p filled h = by (those q table) filled.0 (top_some table ks k p filled.1 h)
  where
    by : (ss : List Source) → 0 < length ss → slice_get (tops table ks) k ≡ option_map (λ s. (p, s)) (first_of (those p table)) →
        slice_get (top_of q ss ++ tops table ks) (suc k) ≡ option_map (λ s. (p, s)) (first_of (those p table))
    by [] some more = absurd (omega (arith, some))
    by (s ∷ ss) some more = more

pub head_none : (table : Table) (ks : List AddressBlock) (k : ℕ) → IsKept table ks → slice_get ks k ≡ None → slice_get (heads (in_order table ks)) k ≡ None
head_none table ks k kept h = ap (λ rs. slice_get rs k) (heads_are table ks kept) ∙ top_none table ks k (filled_from table ks ks kept (λ k i. i)) h

pub head_some : (table : Table) (ks : List AddressBlock) (k : ℕ) (p : AddressBlock) → IsKept table ks → slice_get ks k ≡ Some p →
    slice_get (heads (in_order table ks)) k ≡ option_map (λ s. (p, s)) (first_of (those p table))
head_some table ks k p kept h = ap (λ rs. slice_get rs k) (heads_are table ks kept) ∙ top_some table ks k p (filled_from table ks ks kept (λ k i. i)) h

-- and of the routes that are shown
module _ (table : Table) (ks : List AddressBlock) (routes : List (AddressBlock × Source)) (k : ℕ) where
  pub shown_none : IsKept table ks → in_order table ks ≡ routes → slice_get ks k ≡ None → None ≡ slice_get (heads routes) k
  shown_none kept shown h = sym (head_none table ks k kept h) ∙ ap (λ rs. slice_get (heads rs) k) shown

  pub shown_some : (p : AddressBlock) (found : Option (List Source)) → IsKept table ks → in_order table ks ≡ routes → slice_get ks k ≡ Some p →
      found ≡ value_at p table → option_map (λ (s : Source). (p, s)) (first_of (unwrap_or found [])) ≡ slice_get (heads routes) k
  shown_some p found kept shown h found_is =
      ap (λ o. option_map (λ (s : Source). (p, s)) (first_of (unwrap_or o []))) found_is ∙ sym (head_some table ks k p kept h)
      ∙ ap (λ rs. slice_get (heads rs) k) shown

-- 4. The longest match
-- a later route of a prefix is never chosen
chosen_again : (address : ℕ) (best : Option (AddressBlock × Source)) (k : AddressBlock) (s t : Source) →
    chosen address (chosen address best (k, s)) (k, t) ≡ chosen address best (k, s)
chosen_again address None k s t = split (contains k address) refl
  where
    split : (c : Bool) → contains k address ≡ c → chosen address (if c then Some (k, s) else None) (k, t) ≡ (if c then Some (k, s) else None)
    split true e =
        ap (λ b. if b && nat_lt k.length k.length then Some (k, t) else Some (k, s)) e
        ∙ ap (λ b. if b then Some (k, t) else Some (k, s)) (less_itself k.length)
    split false e = ap (λ b. if b then Some (k, t) else None) e
chosen_again address (Some best) k s t = split (contains k address) (nat_lt best.0.length k.length) refl refl
  where
    split : (c l : Bool) → contains k address ≡ c → nat_lt best.0.length k.length ≡ l →
        chosen address (if c && l then Some (k, s) else Some best) (k, t) ≡ (if c && l then Some (k, s) else Some best)
    split true true e f =
        ap (λ b. if b && nat_lt k.length k.length then Some (k, t) else Some (k, s)) e
        ∙ ap (λ b. if b then Some (k, t) else Some (k, s)) (less_itself k.length)
    split true false e f = ap (λ b. if b && nat_lt best.0.length k.length then Some (k, t) else Some best) e ∙ ap (λ b. if b then Some (k, t) else Some best) f
    split false l e f = ap (λ b. if b && nat_lt best.0.length k.length then Some (k, t) else Some best) e

fold_again : (address : ℕ) (best : Option (AddressBlock × Source)) (k : AddressBlock) (s : Source) (ss : List Source) →
    fold (chosen address) (chosen address best (k, s)) (map (λ s. (k, s)) ss) ≡ chosen address best (k, s)
fold_again address best k s [] = refl
fold_again address best k s (t ∷ ss) =
    ap (λ b. fold (chosen address) b (map (λ s. (k, s)) ss)) (chosen_again address best k s t) ∙ fold_again address best k s ss

pub fold_top : (address : ℕ) (best : Option (AddressBlock × Source)) (k : AddressBlock) (ss : List Source) →
    fold (chosen address) best (map (λ s. (k, s)) ss) ≡ fold (chosen address) best (top_of k ss)
fold_top address best k [] = refl
fold_top address best k (s ∷ ss) = fold_again address best k s ss

fold_tops : (address : ℕ) (best : Option (AddressBlock × Source)) (table : Table) (ks : List AddressBlock) →
    fold (chosen address) best (in_order table ks) ≡ fold (chosen address) best (tops table ks)
fold_tops address best table [] = refl
fold_tops address best table (k ∷ ks) =
    fold-append (chosen address) best (routes_at table k) (in_order table ks)
    ∙ ap (λ b. fold (chosen address) b (in_order table ks)) (fold_top address best k (those k table))
    ∙ fold_tops address (fold (chosen address) best (top_of k (those k table))) table ks
    ∙ sym (fold-append (chosen address) best (top_of k (those k table)) (tops table ks))

longest_of_tops : (address : ℕ) (table : Table) (ks : List AddressBlock) → longest_match address (in_order table ks) ≡ longest_match address (tops table ks)
longest_of_tops address table ks = sym (chosen_is address (in_order table ks)) ∙ fold_tops address None table ks ∙ chosen_is address (tops table ks)

-- the first routes are a table of their own
top_value : (table : Table) (ks : List AddressBlock) (p : AddressBlock) → AllByRecursion (λ q. 0 < length (those q table)) ks →
    list_any (same_prefix p) ks ≡ true → value_at p (tops table ks) ≡ first_of (those p table)
top_value table [] p filled h = absurd (no h)
top_value table (k ∷ ks) p filled h = by (those k table) refl filled.0 (two_ways (same_prefix p k)) (top_value table ks p filled.1)
  where
    by : (ss : List Source) → those k table ≡ ss → 0 < length ss → (same_prefix p k ≡ true) ⊎ (same_prefix p k ≡ false) →
        (list_any (same_prefix p) ks ≡ true → value_at p (tops table ks) ≡ first_of (those p table)) →
        value_at p (top_of k ss ++ tops table ks) ≡ first_of (those p table)
    by [] e some w more = absurd (omega (arith, some))
    by (s ∷ ss) e some (inl same) more =
        ap (λ b. cond b (Some s) (value_at p (tops table ks))) same ∙ sym (ap (λ q. first_of (those q table)) (same_exact p k same) ∙ ap first_of e)
    by (s ∷ ss) e some (inr other) more =
        ap (λ b. cond b (Some s) (value_at p (tops table ks))) other ∙ more (sym (ap (λ b. b || list_any (same_prefix p) ks) other) ∙ h)

top_missing : (table : Table) (ks : List AddressBlock) (p : AddressBlock) → AllByRecursion (λ q. 0 < length (those q table)) ks →
    list_any (same_prefix p) ks ≡ false → value_at p (tops table ks) ≡ None
top_missing table [] p filled h = refl
top_missing table (k ∷ ks) p filled h = by (those k table) filled.0 (top_missing table ks p filled.1 parts.1)
  where
    parts : (same_prefix p k ≡ false) × (list_any (same_prefix p) ks ≡ false)
    parts = or_off (same_prefix p k) (list_any (same_prefix p) ks) h

    by : (ss : List Source) → 0 < length ss → value_at p (tops table ks) ≡ None → value_at p (top_of k ss ++ tops table ks) ≡ None
    by [] some more = absurd (omega (arith, some))
    by (s ∷ ss) some more = ap (λ b. cond b (Some s) (value_at p (tops table ks))) (parts).0 ∙ more

top_keys : (table : Table) (ks : List AddressBlock) → AllByRecursion (λ q. 0 < length (those q table)) ks → keys_of (tops table ks) ≡ ks
top_keys table [] filled = refl
top_keys table (k ∷ ks) filled = by (those k table) filled.0 (top_keys table ks filled.1)
  where
    by : (ss : List Source) → 0 < length ss → keys_of (tops table ks) ≡ ks → keys_of (top_of k ss ++ tops table ks) ≡ k ∷ ks
    by [] some more = absurd (omega (arith, some))
    by (s ∷ ss) some more = ap (λ js. k ∷ js) more

pub distinct_in_order : (ks : List AddressBlock) → Ascends prefix_before ks → IsDistinct same_prefix ks
unfolding IsDistinct
distinct_in_order [] h = tt
distinct_in_order (k ∷ ks) h = (apart ks h.0, distinct_in_order ks h.1)
  where
    apart : (qs : List AddressBlock) → AllByRecursion (λ q. prefix_before k q ≡ true) qs → AllByRecursion (λ q. same_prefix k q ≡ false) qs
    apart [] g = tt
    apart (q ∷ qs) g = (before_apart k q g.0, apart qs g.1)

module _ (table : Table) (ks : List AddressBlock) (kept : IsKept table ks) (pairs : IsTable table) (address : ℕ) where
  filled : AllByRecursion (λ q. 0 < length (those q table)) ks
  filled = filled_from table ks ks kept (λ k i. i)

  there : (q : AddressBlock) (v : Source) → value_at q (tops table ks) ≡ Some v → (ss : List Source) × (value_at q table ≡ Some ss)
  there q v h = split (two_ways (list_any (same_prefix q) ks))
    where
      some : (o : Option (List Source)) → is_some o ≡ true → (ss : List Source) × (o ≡ Some ss)
      some None e = absurd (no e)
      some (Some ss) e = (ss, refl)

      neither : (o : Option Source) → o ≡ None → o ≡ Some v → ⊥
      neither None e f = cc
      neither (Some w) e f = cc

      split : (list_any (same_prefix q) ks ≡ true) ⊎ (list_any (same_prefix q) ks ≡ false) → (ss : List Source) × (value_at q table ≡ Some ss)
      split (inl e) = some (value_at q table) (kept.same q ∙ e)
      split (inr e) = absurd (neither (value_at q (tops table ks)) (top_missing table ks q (filled_from table ks ks kept (λ k i. i)) e) h)

  tops_table : IsTable (tops table ks)
  tops_table = record {
    distinct = subst (IsDistinct same_prefix) (sym (top_keys table ks (filled_from table ks ks kept (λ k i. i)))) (distinct_in_order ks kept.ascend);
    prefixes =
        subst (AllByRecursion (λ p. IsPrefix p.address p.length)) (sym (top_keys table ks (filled_from table ks ks kept (λ k i. i)))) (forms ks (λ k i. i));
  }
    where
      form : (k : AddressBlock) (o : Option (List Source)) → value_at k table ≡ o → is_some o ≡ true → IsPrefix k.address k.length
      form k None e h = absurd (no h)
      form k (Some ss) e h = form_of (λ p. IsPrefix p.address p.length) k ss table pairs.prefixes e

      forms : (js : List AddressBlock) → ((k : AddressBlock) → In js k → In ks k) → AllByRecursion (λ p. IsPrefix p.address p.length) js
      forms [] h = tt
      forms (k ∷ js) h = (form k (value_at k table) refl (kept.same k ∙ in_any k ks (h k (inl refl))), forms js (λ q i. h q (inr i)))

  pub found_some : (p : AddressBlock) (ss : List Source) → longest_match address table ≡ Some (p, ss) →
      option_map (λ s. (p, s)) (first_of ss) ≡ longest_match address (in_order table ks)
  found_some p ss h = by ss refl (kept.each p ss known.held).some ∙ sym (longest_of_tops address table ks)
    where
      known : IsLongestMatch address table (p, ss)
      known = (longest_some address table (p, ss) pairs).0 h

      by : (rs : List Source) → ss ≡ rs → 0 < length rs → option_map (λ s. (p, s)) (first_of rs) ≡ longest_match address (tops table ks)
      by [] e some = absurd (omega (arith, some))
      by (s ∷ rs) e some =
          sym ((longest_some address (tops table ks) (p, s) tops_table).1 (record {
            held = top_value table ks p (filled_from table ks ks kept (λ k i. i)) (sym (kept.same p) ∙ ap is_some (known).held)
                ∙ ap (λ o. first_of (unwrap_or o [])) (known).held ∙ ap first_of e;
            covers = (known).covers;
            longest = λ q v held covers. let at = there q v held in (known).longest q at.0 at.1 covers;
          }))

  pub found_none : longest_match address table ≡ None → None ≡ longest_match address (in_order table ks)
  found_none h =
      sym ((longest_none address (tops table ks) tops_table).1 (λ q v held. let at = there q v held in (longest_none address table pairs).0 h q at.0 at.1))
      ∙ sym (longest_of_tops address table ks)
