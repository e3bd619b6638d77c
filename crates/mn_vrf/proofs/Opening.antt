-- The first open route of the longest prefix that has one is the longest match among the open routes.
use Rattle.std.proofs.Common.{ℕ, ◌≡◌, ◌≢◌, ◌≤◌, ◌<◌, ◌⊎◌, inl, inr, Bool, true, false, cond, List, [], ◌∷◌, ◌++◌, map, filter, length, Option, Some, None}
use Rattle.std.proofs.Common.{refl, arith, sym, ◌∙◌, ap, subst}
use Rattle.std.specs.Prelude.{◌||◌, fold}
use Rattle.std.specs.Option.{is_some, unwrap_or, option_map}
use Rattle.std.specs.List.{AllByRecursion, list_any, flat_map, IsDistinct}
use Rattle.std.specs.Map.{keys_of}
use Rattle.std.proofs.lemmas.List.Elements.{filter-append}
use Rattle.std.proofs.lemmas.List.Sums.{fold-append}
use Rattle.mn_base.specs.Ordered.{Ascends}
use Rattle.mn_base.proofs.Bools.{no, two_ways, or_off}
use Rattle.mn_base.proofs.Members.{In}
use Rattle.mn_prefix.specs.Prefix.{AddressBlock, IsPrefix, same_prefix, prefix_before}
use Rattle.mn_prefix.specs.Table.{IsTable, value_at, first_of, longest_match}
use Rattle.mn_prefix.proofs.Tables.{same_exact}
use Rattle.mn_lpm.specs.Levels.{prefix_at, pair_at}
use Rattle.std.proofs.lemmas.Option.{same_Some}
use Rattle.mn_lpm.proofs.LookUps.{form_of, first_is_longest, none_is_longest}
use Rattle.mn_vrf.specs.declared.source.Source.{Source}
use Rattle.mn_vrf.specs.Routes.{is_open, open_among, sources_of}
use Rattle.mn_vrf.specs.Kept.{those, routes_at, in_order, IsKept}
use Rattle.mn_vrf.proofs.Choices.{chosen, chosen_is}
use Rattle.mn_vrf.proofs.Keeping.{in_any, before_apart}
use Rattle.mn_vrf.proofs.Finding.{top_of, fold_top, sources_are, distinct_in_order}

abbrev Table : Type 0
Table = List (AddressBlock × List Source)

-- 1. The routes of prefixes by any sources of each

module _ (of : AddressBlock → List Source) (address : ℕ) where
  abbrev all_of : List AddressBlock → List (AddressBlock × Source)
  all_of ks = flat_map (λ k. map (λ s. (k, s)) (of k)) ks

  abbrev firsts : List AddressBlock → List (AddressBlock × Source)
  firsts ks = flat_map (λ k. top_of k (of k)) ks

  fold_firsts : (best : Option (AddressBlock × Source)) (ks : List AddressBlock) →
      fold (chosen address) best (all_of ks) ≡ fold (chosen address) best (firsts ks)
  fold_firsts best [] = refl
  fold_firsts best (k ∷ ks) =
      fold-append (chosen address) best (map (λ s. (k, s)) (of k)) (all_of ks)
      ∙ ap (λ b. fold (chosen address) b (all_of ks)) (fold_top address best k (of k))
      ∙ fold_firsts (fold (chosen address) best (top_of k (of k))) ks
      ∙ sym (fold-append (chosen address) best (top_of k (of k)) (firsts ks))

  longest_of : (ks : List AddressBlock) → longest_match address (all_of ks) ≡ longest_match address (firsts ks)
  longest_of ks = sym (chosen_is address (all_of ks)) ∙ fold_firsts None ks ∙ chosen_is address (firsts ks)

  none_among : (p : AddressBlock) (ks : List AddressBlock) → list_any (same_prefix p) ks ≡ false → value_at p (firsts ks) ≡ None
  none_among p [] h = refl
  none_among p (k ∷ ks) h = by (of k) (none_among p ks (or_off (same_prefix p k) (list_any (same_prefix p) ks) h).1)
    where
      by : (ss : List Source) → value_at p (firsts ks) ≡ None → value_at p (top_of k ss ++ firsts ks) ≡ None
      by [] more = more
      by (s ∷ ss) more = ap (λ b. cond b (Some s) (value_at p (firsts ks))) (or_off (same_prefix p k) (list_any (same_prefix p) ks) h).0 ∙ more

  none_after : (k : AddressBlock) (ks : List AddressBlock) → AllByRecursion (λ q. prefix_before k q ≡ true) ks → list_any (same_prefix k) ks ≡ false
  none_after k [] h = refl
  none_after k (q ∷ ks) h = ap (λ b. b || list_any (same_prefix k) ks) (before_apart k q h.0) ∙ none_after k ks h.1

  value_of : (p : AddressBlock) (ks : List AddressBlock) → Ascends prefix_before ks → (list_any (same_prefix p) ks ≡ false → of p ≡ [])
      → value_at p (firsts ks) ≡ first_of (of p)
  value_of p [] up off = sym (ap first_of (off refl))
  value_of p (k ∷ ks) up off = by (two_ways (same_prefix p k)) (λ h. value_of p ks up.1 h)
    where
      here : (ss : List Source) → same_prefix p k ≡ true → value_at p (firsts ks) ≡ None → value_at p (top_of k ss ++ firsts ks) ≡ first_of ss
      here [] same more = more
      here (s ∷ ss) same more = ap (λ b. cond b (Some s) (value_at p (firsts ks))) same

      later : (ss : List Source) → same_prefix p k ≡ false → value_at p (top_of k ss ++ firsts ks) ≡ value_at p (firsts ks)
      later [] other = refl
      later (s ∷ ss) other = ap (λ b. cond b (Some s) (value_at p (firsts ks))) other

      by : (same_prefix p k ≡ true) ⊎ (same_prefix p k ≡ false) → ((list_any (same_prefix p) ks ≡ false → of p ≡ []) → value_at p (firsts ks) ≡ first_of (of p))
          → value_at p (firsts (k ∷ ks)) ≡ first_of (of p)
      by (inl same) more =
          let one : p ≡ k = same_exact p k same in
          here (of k) same (none_among p ks (subst (λ q. list_any (same_prefix q) ks ≡ false) (sym one) (none_after k ks up.0)))
          ∙ ap (λ q. first_of (of q)) (sym one)
      by (inr other) more =
          later (of k) other ∙ more (λ h. off (ap (λ b. b || list_any (same_prefix p) ks) other ∙ h))

  keys_among : (P : AddressBlock → Type 0) (ks : List AddressBlock) → AllByRecursion P ks → AllByRecursion P (keys_of (firsts ks))
  keys_among P [] h = tt
  keys_among P (k ∷ ks) h = by (of k) (keys_among P ks h.1)
    where
      by : (ss : List Source) → AllByRecursion P (keys_of (firsts ks)) → AllByRecursion P (keys_of (top_of k ss ++ firsts ks))
      by [] more = more
      by (s ∷ ss) more = (h.0, more)

  distinct_among : (ks : List AddressBlock) → IsDistinct same_prefix ks → IsDistinct same_prefix (keys_of (firsts ks))
  unfolding IsDistinct
  distinct_among [] h = tt
  distinct_among (k ∷ ks) h = by (of k) (distinct_among ks h.1) (keys_among (λ q. same_prefix k q ≡ false) ks h.0)
    where
      by : (ss : List Source) → IsDistinct same_prefix (keys_of (firsts ks)) → AllByRecursion (λ q. same_prefix k q ≡ false) (keys_of (firsts ks))
          → IsDistinct same_prefix (keys_of (top_of k ss ++ firsts ks))
      by [] more apart = more
      by (s ∷ ss) more apart = (apart, more)

-- 2. Open routes

open_of_one : (ways : List Bool) (k : AddressBlock) (ss : List Source) → open_among ways (map (λ s. (k, s)) ss) ≡ map (λ s. (k, s)) (filter (is_open ways) ss)
open_of_one ways k [] = refl
open_of_one ways k (s ∷ ss) = by (is_open ways s) (open_of_one ways k ss)
  where
    by : (b : Bool) → open_among ways (map (λ s. (k, s)) ss) ≡ map (λ s. (k, s)) (filter (is_open ways) ss)
        → cond b ((k, s) ∷ open_among ways (map (λ s. (k, s)) ss)) (open_among ways (map (λ s. (k, s)) ss))
        ≡ map (λ s. (k, s)) (cond b (s ∷ filter (is_open ways) ss) (filter (is_open ways) ss))
    by true more = ap (λ rs. (k, s) ∷ rs) more
    by false more = more

abbrev opened : List Bool → Table → AddressBlock → List Source
opened ways table k = filter (is_open ways) (those k table)

open_in_order : (ways : List Bool) (table : Table) (ks : List AddressBlock) →
    open_among ways (in_order table ks) ≡ flat_map (λ k. map (λ s. (k, s)) (opened ways table k)) ks
open_in_order ways table [] = refl
open_in_order ways table (k ∷ ks) =
    filter-append (λ (r : AddressBlock × Source). is_open ways r.1) (routes_at table k) (in_order table ks)
    ∙ ap (λ rs. rs ++ open_among ways (in_order table ks)) (open_of_one ways k (those k table))
    ∙ ap (λ rs. map (λ s. (k, s)) (opened ways table k) ++ rs) (open_in_order ways table ks)

module _ (ways : List Bool) (table : Table) (ks : List AddressBlock) (kept : IsKept table ks)
    (formed : (p : AddressBlock) → sources_of p (in_order table ks) ≢ [] → IsPrefix p.address p.length) (address : ℕ) where
  missing : (p : AddressBlock) → list_any (same_prefix p) ks ≡ false → opened ways table p ≡ []
  missing p h = by (value_at p table) (kept.same p ∙ h)
    where
      by : (o : Option (List Source)) → is_some o ≡ false → filter (is_open ways) (unwrap_or o []) ≡ []
      by None e = refl
      by (Some ss) e = absurd (no (sym e))

  has_form : (k : AddressBlock) → In ks k → IsPrefix k.address k.length
  has_form k i = formed k (λ e. by (value_at k table) (kept.same k ∙ in_any k ks i) (λ ss f. (kept.each k ss f).some) (sym (sources_are table ks k kept) ∙ e))
    where
      by : (o : Option (List Source)) → is_some o ≡ true → ((ss : List Source) → o ≡ Some ss → 0 < length ss) → unwrap_or o [] ≡ [] → ⊥
      by None e f g = no e
      by (Some []) e f g = omega (arith, f [] refl)
      by (Some (s ∷ ss)) e f g = cc

  forms : (js : List AddressBlock) → ((k : AddressBlock) → In js k → In ks k) → AllByRecursion (λ p. IsPrefix p.address p.length) js
  forms [] h = tt
  forms (k ∷ js) h = (has_form k (h k (inl refl)), forms js (λ q i. h q (inr i)))

  its_table : IsTable (flat_map (λ k. top_of k (opened ways table k)) ks)
  its_table = record {
    distinct = distinct_among (opened ways table) address ks (distinct_in_order ks kept.ascend);
    prefixes = keys_among (opened ways table) address (λ p. IsPrefix p.address p.length) ks (forms ks (λ k i. i));
  }

  value_is : (p : AddressBlock) →
      value_at p (flat_map (λ k. top_of k (opened ways table k)) ks) ≡ first_of (filter (is_open ways) (sources_of p (in_order table ks)))
  value_is p = value_of (opened ways table) address p ks kept.ascend (missing p)
      ∙ ap (λ ss. first_of (filter (is_open ways) ss)) (sym (sources_are table ks p kept))

  abbrev first_at : ℕ → Option Source
  first_at n = first_of (filter (is_open ways) (sources_of (prefix_at n address) (in_order table ks)))

  whole : longest_match address (open_among ways (in_order table ks)) ≡ longest_match address (flat_map (λ k. top_of k (opened ways table k)) ks)
  whole = ap (longest_match address) (open_in_order ways table ks) ∙ longest_of (opened ways table) address ks

  pub found_open : (size : ℕ) → ((n : ℕ) → size < n → n ≤ 32 → first_at n ≡ None) → is_some (first_at size) ≡ true
      → option_map (λ s. (prefix_at size address, s)) (first_at size) ≡ longest_match address (open_among ways (in_order table ks))
  found_open size none some = by (first_at size) refl some
    where
      by : (o : Option Source) → first_at size ≡ o → is_some o ≡ true
          → option_map (λ s. (prefix_at size address, s)) o ≡ longest_match address (open_among ways (in_order table ks))
      by None e h = absurd (no h)
      by (Some s) e h =
          sym (whole ∙ first_is_longest address size (flat_map (λ k. top_of k (opened ways table k)) ks) s its_table
          (λ n longer short. value_is (prefix_at n address) ∙ none n longer short) (value_is (prefix_at size address) ∙ e))

  pub none_open : ((n : ℕ) → n ≤ 32 → first_at n ≡ None) → None ≡ longest_match address (open_among ways (in_order table ks))
  none_open none =
      sym (whole ∙ none_is_longest address (flat_map (λ k. top_of k (opened ways table k)) ks) its_table (λ n short. value_is (prefix_at n address)
      ∙ none n short))

-- 3. By length

abbrev pub with_prefix : AddressBlock → Option Source → Option (AddressBlock × Source)
with_prefix p o = option_map {U = AddressBlock × Source} (λ s. (p, s)) o

pair_some : (table : Table) (ks : List AddressBlock) (kept : IsKept table ks) (p q : AddressBlock) (ss : List Source) (ways : List Bool) (o : Option Source)
    → Some (q, ss) ≡ pair_at p table → o ≡ first_of (filter (is_open ways) ss)
    → with_prefix q o ≡ with_prefix p (first_of (filter (is_open ways) (sources_of p (in_order table ks))))
pair_some table ks kept p q ss ways o h k = by (value_at p table) refl h
  where
    none : ◌≡◌ {A = Option (AddressBlock × List Source)} (Some (q, ss)) None → ⊥
    none z = cc

    by : (v : Option (List Source)) → value_at p table ≡ v →
        ◌≡◌ {A = Option (AddressBlock × List Source)} (Some (q, ss)) (option_map {U = AddressBlock × List Source} (λ value. (p, value)) v)
        → with_prefix q o ≡ with_prefix p (first_of (filter (is_open ways) (sources_of p (in_order table ks))))
    by None e g = absurd (none g)
    by (Some rs) e g =
        let same : ◌≡◌ {A = AddressBlock × List Source} (q, ss) (p, rs) = same_Some (q, ss) (p, rs) g in
        ap (λ (pair : AddressBlock × List Source). with_prefix pair.0 o) same
        ∙ ap (with_prefix p) (k ∙ ap (λ (pair : AddressBlock × List Source). first_of (filter (is_open ways) pair.1)) same
        ∙ ap (λ ts. first_of (filter (is_open ways) ts)) (sym (sources_are table ks p kept ∙ ap (λ v. unwrap_or v []) e)))

pub some_at : (table : Table) (ks : List AddressBlock) (rs : List (AddressBlock × Source)) → in_order table ks ≡ rs → IsKept table ks
    → (p q : AddressBlock) (ss : List Source) (ways : List Bool) (o : Option Source)
    → Some (q, ss) ≡ pair_at p table → o ≡ first_of (filter (is_open ways) ss)
    → with_prefix q o ≡ with_prefix p (first_of (filter (is_open ways) (sources_of p rs)))
some_at table ks rs e kept p q ss ways o h k =
    pair_some table ks kept p q ss ways o h k ∙ ap (λ ts. with_prefix p (first_of (filter (is_open ways) (sources_of p ts)))) e

pub none_at : (table : Table) (ks : List AddressBlock) (rs : List (AddressBlock × Source)) → in_order table ks ≡ rs → IsKept table ks
    → (p : AddressBlock) (ways : List Bool) → None ≡ pair_at p table
    → ◌≡◌ {A = Option (AddressBlock × Source)} None (with_prefix p (first_of (filter (is_open ways) (sources_of p rs))))
none_at table ks rs e kept p ways h = by (value_at p table) refl h
  where
    some : (ts : List Source) → ◌≡◌ {A = Option (AddressBlock × List Source)} None (Some (p, ts)) → ⊥
    some ts z = cc

    by : (v : Option (List Source)) → value_at p table ≡ v →
        ◌≡◌ {A = Option (AddressBlock × List Source)} None (option_map {U = AddressBlock × List Source} (λ value. (p, value)) v)
        → ◌≡◌ {A = Option (AddressBlock × Source)} None (with_prefix p (first_of (filter (is_open ways) (sources_of p rs))))
    by None f g =
        ap (λ ts. with_prefix p (first_of (filter (is_open ways) ts)))
        (sym (ap (λ us. sources_of p us) (sym e) ∙ sources_are table ks p kept ∙ ap (λ v. unwrap_or v []) f))
    by (Some ts) f g = absurd (some ts g)

pub formed_at : (table : Table) (ks : List AddressBlock) (rs : List (AddressBlock × Source)) → in_order table ks ≡ rs → IsKept table ks → IsTable table
    → (p : AddressBlock) → sources_of p rs ≢ [] → IsPrefix p.address p.length
formed_at table ks rs e kept pairs p some = by (value_at p table) refl
  where
    by : (v : Option (List Source)) → value_at p table ≡ v → IsPrefix p.address p.length
    by None f = absurd (some (ap (λ us. sources_of p us) (sym e) ∙ sources_are table ks p kept ∙ ap (λ v. unwrap_or v []) f))
    by (Some ts) f = form_of (λ p. IsPrefix p.address p.length) p ts table pairs.prefixes f

-- 4. The look-up

abbrev pub first_of_length : List Bool → ℕ → List (AddressBlock × Source) → ℕ → Option Source
first_of_length ways address rs n = first_of (filter (is_open ways) (sources_of (prefix_at n address) rs))

abbrev pub AllFormed : List (AddressBlock × Source) → Type 0
AllFormed rs = (p : AddressBlock) → sources_of p rs ≢ [] → IsPrefix p.address p.length

some_of : (p : AddressBlock) (o : Option Source) → is_some (with_prefix p o) ≡ true → is_some o ≡ true
some_of p None h = h
some_of p (Some s) h = refl

pub found_there : (table : Table) (ks : List AddressBlock) (rs : List (AddressBlock × Source)) → in_order table ks ≡ rs → IsKept table ks
    → (ways : List Bool) (address size : ℕ) → AllFormed rs → ((n : ℕ) → size < n → n ≤ 32 → first_of_length ways address rs n ≡ None)
    → (o : Option (AddressBlock × Source)) → o ≡ with_prefix (prefix_at size address) (first_of_length ways address rs size) → is_some o ≡ true
    → o ≡ longest_match address (open_among ways rs)
found_there table ks rs e kept ways address size formed none o is some =
    is ∙ subst (λ us. AllFormed us → ((n : ℕ) → size < n → n ≤ 32 → first_of_length ways address us n ≡ None) →
    is_some (first_of_length ways address us size) ≡ true
    → with_prefix (prefix_at size address) (first_of_length ways address us size) ≡ longest_match address (open_among ways us)) e
    (λ f g h. found_open ways table ks kept f address size g h)
    formed none (some_of (prefix_at size address) (first_of_length ways address rs size) (ap is_some (sym is) ∙ some))

pub none_there : (table : Table) (ks : List AddressBlock) (rs : List (AddressBlock × Source)) → in_order table ks ≡ rs → IsKept table ks
    → (ways : List Bool) (address : ℕ) → AllFormed rs → ((n : ℕ) → n ≤ 32 → first_of_length ways address rs n ≡ None)
    → None ≡ longest_match address (open_among ways rs)
none_there table ks rs e kept ways address formed none =
    subst (λ us. AllFormed us → ((n : ℕ) → n ≤ 32 → first_of_length ways address us n ≡ None) → None ≡ longest_match address (open_among ways us)) e
    (λ f g. none_open ways table ks kept f address g) formed none
