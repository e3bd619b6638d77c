-- A table that is kept by length: what it has at a prefix is what the level of its length has at its address.
use Rattle.std.proofs.Common.{◌≡◌, ◌≢◌, ◌<◌, ◌≤◌, ◌+◌, ℕ, zero, suc, Bool, true, false, cond, List, [], ◌∷◌, ◌++◌, length, map, filter, Option, Some, None}
use Rattle.std.proofs.Common.{refl, ap, sym, ◌∙◌, subst, arith, get_or, slice_set, ◌⊎◌, inl, inr}
use Rattle.std.specs.Prelude.{◌==◌, ◌&&◌, nat_lt}
use Rattle.std.specs.Ordering.{nat_cmp, is_eq, eq_by_cmp}
use Rattle.std.specs.Option.{option_or, IsSome}
use Rattle.std.specs.List.{AllByRecursion, IsDistinct}
use Rattle.std.specs.Map.{lookup, keys_of}
use Rattle.std.specs.BTreeMap.{BTreeMap, is_at, get, keys, ContainsKey, IsOrdered, Updates}
use Rattle.std.proofs.lemmas.Cmp.{nat_cmp_total}
use Rattle.std.proofs.lemmas.List.{map-append, append-nil, get_or_default, get_or-set_same, get_or-set_other, length-set}
use Rattle.std.proofs.lemmas.List.Elements.{filter-append, recursion_from_All}
use Rattle.std.proofs.lemmas.Map.Keys.{IsDistinct-from_sorted}
use Rattle.std.proofs.lemmas.Map.Views.{All-keys_found}
use Rattle.std.proofs.lemmas.Bool.Decides.{nat_tests}
use Rattle.mn_base.proofs.Bools.{two_ways, test_same, other_test, same_numbers, other_numbers, and_off_right, less_tells, not_less_tells}
use Rattle.mn_base.proofs.Places.{all_append, all_turned}
use Rattle.mn_prefix.specs.Prefix.{AddressBlock, IsPrefix, same_prefix}
use Rattle.mn_prefix.specs.Table.{IsTable, value_at, ChangesOnly}
use Rattle.mn_lpm.specs.Levels.{of_length, pairs_from, level_of, IsLevel, AreLevels}

-- 1. One level
same_address : (a k : ℕ) → is_eq (nat_cmp a k) ≡ (a == k)
same_address a k = grind (arith, nat_tests)

and_true : (b : Bool) → (b && true) ≡ b
and_true true = refl
and_true false = refl

below_or_not : (a b : ℕ) → (a < b) ⊎ (b ≤ a)
below_or_not a b = elim (two_ways (nat_lt a b)) [ inl h ↦ inl (less_tells a b h) | inr h ↦ inr (not_less_tells a b h) ]

-- a prefix of this length
abbrev at_size : ℕ → ℕ → AddressBlock
at_size size address = record { address = address; length = size }

distinct_at : (size : ℕ) (ks : List ℕ) → IsDistinct (eq_by_cmp nat_cmp) ks → IsDistinct same_prefix (map (at_size size) ks)
unfolding IsDistinct
distinct_at size [] h = tt
distinct_at size (k ∷ ks) h = (apart ks h.0, distinct_at size ks h.1)
  where
    apart : (ys : List ℕ) → AllByRecursion (λ y. eq_by_cmp nat_cmp k y ≡ false) ys →
        AllByRecursion (λ p. same_prefix (at_size size k) p ≡ false) (map (at_size size) ys)
    apart [] g = tt
    apart (y ∷ ys) g = (ap (λ b. b && (size == size)) (sym (same_address k y) ∙ g.0), apart ys g.1)

distinct_append : (xs ys : List AddressBlock) → IsDistinct same_prefix xs → IsDistinct same_prefix ys →
    AllByRecursion (λ x. AllByRecursion (λ y. same_prefix x y ≡ false) ys) xs → IsDistinct same_prefix (xs ++ ys)
unfolding IsDistinct
distinct_append [] ys h k apart = k
distinct_append (x ∷ xs) ys h k apart = (all_append (λ y. same_prefix x y ≡ false) xs ys h.0 apart.0, distinct_append xs ys h.1 k apart.1)

all_at_size : (P : AddressBlock → Type 0) (size : ℕ) (ks : List ℕ) → AllByRecursion (λ k. P (at_size size k)) ks → AllByRecursion P (map (at_size size) ks)
all_at_size P size [] h = tt
all_at_size P size (k ∷ ks) h = (h.0, all_at_size P size ks h.1)

everywhere : (P : ℕ → Type 0) (ks : List ℕ) → ((k : ℕ) → P k) → AllByRecursion P ks
everywhere P [] h = tt
everywhere P (k ∷ ks) h = (h k, everywhere P ks h)

module _ {T : Type 0} where
  value_of_length : (p : AddressBlock) (size : ℕ) (es : List (ℕ × T)) →
      value_at p (of_length size es) ≡ cond (p.length == size) (lookup (is_at (nat_cmp p.address)) es) None
  value_of_length p size [] = split (p.length == size)
    where
      split : (b : Bool) → ◌≡◌ {A = Option T} None (cond b None None)
      split true = refl
      split false = refl
  value_of_length p size (e ∷ es) =
      split (p.address == e.0) (p.length == size) (is_eq (nat_cmp p.address e.0)) (same_address p.address e.0) (value_of_length p size es)
    where
      split : (a s c : Bool) → c ≡ a → value_at p (of_length size es) ≡ cond s (lookup (is_at (nat_cmp p.address)) es) None
          → cond (a && s) (Some e.1) (value_at p (of_length size es)) ≡ cond s (cond c (Some e.1) (lookup (is_at (nat_cmp p.address)) es)) None
      split true true c h more = ap (λ c. cond c (Some e.1) (lookup (is_at (nat_cmp p.address)) es)) (sym h)
      split true false c h more = more
      split false true c h more = more ∙ ap (λ c. cond c (Some e.1) (lookup (is_at (nat_cmp p.address)) es)) (sym h)
      split false false c h more = more

  keys_of_length : (size : ℕ) (es : List (ℕ × T)) → keys_of (of_length size es) ≡ map (at_size size) (keys_of es)
  keys_of_length size [] = refl
  keys_of_length size (e ∷ es) = ap (λ ks. at_size size e.0 ∷ ks) (keys_of_length size es)

  value_append : (p : AddressBlock) (xs ys : List (AddressBlock × T)) → value_at p (xs ++ ys) ≡ option_or (value_at p xs) (value_at p ys)
  value_append p [] ys = refl
  value_append p (x ∷ xs) ys = split (same_prefix p x.0) (value_append p xs ys)
    where
      split : (b : Bool) → value_at p (xs ++ ys) ≡ option_or (value_at p xs) (value_at p ys) →
          cond b (Some x.1) (value_at p (xs ++ ys)) ≡ option_or (cond b (Some x.1) (value_at p xs)) (value_at p ys)
      split true more = refl
      split false more = more

  -- 2. All levels
  pub none_from : (size : ℕ) (levels : List (BTreeMap ℕ T)) → ((i : ℕ) (d : BTreeMap ℕ T) → i < length levels → (get_or levels i d).entries ≡ []) →
      pairs_from size levels ≡ []
  none_from size [] h = refl
  none_from size (level ∷ levels) h =
      ap (λ es. of_length size es ++ pairs_from (suc size) levels) (h 0 level (omega arith))
      ∙ none_from (suc size) levels (λ i d k. h (suc i) d (omega (arith, k)))

  none_at : (size : ℕ) (level : BTreeMap ℕ T) (levels : List (BTreeMap ℕ T)) (p : AddressBlock) → p.length ≢ size →
      value_at p (pairs_from (suc size) levels) ≡ None → value_at p (pairs_from size (level ∷ levels)) ≡ None
  none_at size level levels p apart none =
      value_append p (of_length size level.entries) (pairs_from (suc size) levels)
      ∙ ap (λ o. option_or o (value_at p (pairs_from (suc size) levels)))
      (value_of_length p size level.entries ∙ ap (λ b. cond b (get nat_cmp level p.address) None) (other_test p.length size apart))
      ∙ none

  -- what comes before the levels has no value
  none_below : (size : ℕ) (levels : List (BTreeMap ℕ T)) (p : AddressBlock) → p.length < size → value_at p (pairs_from size levels) ≡ None
  none_below size [] p h = refl
  none_below size (level ∷ levels) p h = none_at size level levels p (omega (arith, h)) (none_below (suc size) levels p (omega (arith, h)))

  none_above : (size : ℕ) (levels : List (BTreeMap ℕ T)) (p : AddressBlock) → size + length levels ≤ p.length → value_at p (pairs_from size levels) ≡ None
  none_above size [] p h = refl
  none_above size (level ∷ levels) p h = none_at size level levels p (omega (arith, h)) (none_above (suc size) levels p (omega (arith, h)))

  or_none : (o : Option T) → option_or o None ≡ o
  or_none None = refl
  or_none (Some x) = refl

  -- what the levels have at a prefix is what its level has at its address
  value_from : (size : ℕ) (levels : List (BTreeMap ℕ T)) (i : ℕ) (d : BTreeMap ℕ T) (p : AddressBlock) → i < length levels → p.length ≡ size + i →
      value_at p (pairs_from size levels) ≡ get nat_cmp (get_or levels i d) p.address
  value_from size [] i d p h e = absurd (omega (arith, h))
  value_from size (level ∷ levels) zero d p h e =
      value_append p (of_length size level.entries) (pairs_from (suc size) levels)
      ∙ ap (λ o. option_or o (value_at p (pairs_from (suc size) levels)))
      (value_of_length p size level.entries ∙ ap (λ b. cond b (get nat_cmp level p.address) None) (test_same p.length size (omega (arith, e))))
      ∙ ap (option_or (get nat_cmp level p.address)) (none_below (suc size) levels p (omega (arith, e)))
      ∙ or_none (get nat_cmp level p.address)
  value_from size (level ∷ levels) (suc i) d p h e =
      value_append p (of_length size level.entries) (pairs_from (suc size) levels)
      ∙ ap (λ o. option_or o (value_at p (pairs_from (suc size) levels)))
      (value_of_length p size level.entries ∙ ap (λ b. cond b (get nat_cmp level p.address) None) (other_test p.length size (omega (arith, e))))
      ∙ value_from (suc size) levels i d p (omega (arith, h)) (omega (arith, e))

  pub level_value : (levels : List (BTreeMap ℕ T)) (d : BTreeMap ℕ T) (p : AddressBlock) → p.length < length levels →
      value_at p (pairs_from 0 levels) ≡ get nat_cmp (get_or levels p.length d) p.address
  level_value levels d p h = value_from 0 levels p.length d p h (omega arith)

  -- as the calls of the table cite it
  pub value_there : (levels : List (BTreeMap ℕ T)) (pairs : List (AddressBlock × T)) (i a : ℕ) (d : BTreeMap ℕ T) (p : AddressBlock) (found : Option T)
      → pairs_from 0 levels ≡ pairs → AreLevels levels → p.length ≤ 32 → i ≡ p.length → a ≡ p.address → found ≡ get nat_cmp (get_or levels i d) a →
      found ≡ value_at p pairs
  value_there levels pairs i a d p found view are short at address value =
      value
      ∙ ap (get nat_cmp (get_or levels i d)) address
      ∙ ap (λ n. get nat_cmp (get_or levels n d) p.address) at
      ∙ sym (level_value levels d p (omega (arith, are.long, short)))
      ∙ ap (value_at p) view

  -- their prefixes are of their lengths
  longer_from : (size : ℕ) (levels : List (BTreeMap ℕ T)) → AllByRecursion (λ p. size ≤ p.length) (keys_of (pairs_from size levels))
  longer_from size [] = tt
  longer_from size (level ∷ levels) =
      subst (AllByRecursion (λ p. size ≤ p.length))
      (sym (map-append (λ (e : AddressBlock × T). e.0) (of_length size level.entries) (pairs_from (suc size) levels)))
      (all_append (λ p. size ≤ p.length) (keys_of (of_length size level.entries)) (keys_of (pairs_from (suc size) levels))
      (subst (AllByRecursion (λ p. size ≤ p.length)) (sym (keys_of_length size level.entries))
      (all_at_size (λ p. size ≤ p.length) size (keys level) (everywhere (λ k. size ≤ size) (keys level) (λ k. omega arith))))
      (all_turned (λ p. suc size ≤ p.length) (λ p. size ≤ p.length) (λ p h. omega (arith, h)) (keys_of (pairs_from (suc size) levels))
      (longer_from (suc size) levels)))

  -- 3. Levels make a table
  table_from : (size : ℕ) (levels : List (BTreeMap ℕ T)) →
      ((i n : ℕ) (d : BTreeMap ℕ T) → i < length levels → n ≡ size + i → IsLevel n (get_or levels i d)) → IsTable (pairs_from size levels)
  unfolding IsDistinct
  table_from size [] h = record { distinct = tt; prefixes = tt }
  table_from size (level ∷ levels) h =
      let here = h 0 size level (omega arith) (omega arith) in
      let rest = table_from (suc size) levels (λ i n d k e. h (suc i) n d (omega (arith, k)) (omega (arith, e))) in
      let both = map-append (λ (e : AddressBlock × T). e.0) (of_length size level.entries) (pairs_from (suc size) levels) in
      let form : AllByRecursion (λ k. IsPrefix k size) (keys level) =
      recursion_from_All (λ k. IsPrefix k size) (keys level) (λ k d g. here.prefixes _ (All-keys_found nat_cmp_total level here.ascends k d g)) in
      record {
        distinct = subst (IsDistinct same_prefix) (sym both)
            (distinct_append (keys_of (of_length size level.entries)) (keys_of (pairs_from (suc size) levels))
            (subst (IsDistinct same_prefix) (sym (keys_of_length size level.entries))
            (distinct_at size (keys level) (IsDistinct-from_sorted nat_cmp (keys level) here.ascends)))
            rest.distinct
            (subst (AllByRecursion (λ x. AllByRecursion (λ y. same_prefix x y ≡ false) (keys_of (pairs_from (suc size) levels))))
            (sym (keys_of_length size level.entries))
            (all_at_size (λ x. AllByRecursion (λ y. same_prefix x y ≡ false) (keys_of (pairs_from (suc size) levels))) size (keys level)
            (everywhere (λ k. AllByRecursion (λ y. same_prefix (at_size size k) y ≡ false) (keys_of (pairs_from (suc size) levels))) (keys level)
            (λ k. all_turned (λ y. suc size ≤ y.length) (λ y. same_prefix (at_size size k) y ≡ false)
            (λ y g. and_off_right (k == y.address) (size == y.length) (other_test size y.length (omega (arith, g))))
            (keys_of (pairs_from (suc size) levels)) (longer_from (suc size) levels))))));
        prefixes = subst (AllByRecursion (λ p. IsPrefix p.address p.length)) (sym both)
            (all_append (λ p. IsPrefix p.address p.length) (keys_of (of_length size level.entries)) (keys_of (pairs_from (suc size) levels))
            (subst (AllByRecursion (λ p. IsPrefix p.address p.length)) (sym (keys_of_length size level.entries))
            (all_at_size (λ p. IsPrefix p.address p.length) size (keys level) form))
            rest.prefixes);
      }

  pub levels_table : (levels : List (BTreeMap ℕ T)) → AreLevels levels → IsTable (pairs_from 0 levels)
  levels_table levels h = table_from 0 levels (λ i n d k e. subst (λ n. IsLevel n (get_or levels i d)) (omega (arith, e)) (h.each i d k))

  -- 4. One level changed
  module _ (levels : List (BTreeMap ℕ T)) (p : AddressBlock) (old new : BTreeMap ℕ T) (value : Option T) (h : p.length < length levels)
      (e : old ≡ get_or levels p.length old) (u : Updates nat_cmp old new p.address value) where
    pub change_only : ChangesOnly (pairs_from 0 levels) (pairs_from 0 (slice_set levels p.length new)) p value
    change_only = record {
      changed = level_value (slice_set levels p.length new) old p (subst (λ n. p.length < n) (sym (length-set levels p.length new)) h)
          ∙ ap (λ m. get nat_cmp m p.address) (get_or-set_same levels p.length new old h)
          ∙ u.1;
      others = λ q apart. by_length q apart (two_ways (p.length == q.length));
    }
      where
        elsewhere : (q : AddressBlock) → p.length ≢ q.length →
            (q.length < length levels) ⊎ (length levels ≤ q.length) →
            value_at q (pairs_from 0 (slice_set levels p.length new)) ≡ value_at q (pairs_from 0 levels)
        elsewhere q other (inl k) =
            level_value (slice_set levels p.length new) old q (subst (λ n. q.length < n) (sym (length-set levels p.length new)) k)
            ∙ ap (λ m. get nat_cmp m q.address) (get_or-set_other levels p.length q.length new old (λ s. other (sym s)))
            ∙ sym (level_value levels old q k)
        elsewhere q other (inr k) =
            none_above 0 (slice_set levels p.length new) q (subst (λ n. 0 + n ≤ q.length) (sym (length-set levels p.length new)) (omega (arith, k)))
            ∙ sym (none_above 0 levels q (omega (arith, k)))

        here : (q : AddressBlock) → p.length ≡ q.length → is_eq (nat_cmp p.address q.address) ≡ false →
            value_at q (pairs_from 0 (slice_set levels p.length new)) ≡ value_at q (pairs_from 0 levels)
        here q same apart =
            level_value (slice_set levels p.length new) old q (subst (λ n. q.length < n) (sym (length-set levels p.length new)) (omega (arith, h, same)))
            ∙ ap (λ n. get nat_cmp (get_or (slice_set levels p.length new) n old) q.address) (sym same)
            ∙ ap (λ m. get nat_cmp m q.address) (get_or-set_same levels p.length new old h)
            ∙ u.2 q.address apart
            ∙ ap (λ m. get nat_cmp m q.address) e
            ∙ ap (λ n. get nat_cmp (get_or levels n old) q.address) same
            ∙ sym (level_value levels old q (omega (arith, h, same)))

        by_length : (q : AddressBlock) → same_prefix p q ≡ false →
            ((p.length == q.length) ≡ true) ⊎ ((p.length == q.length) ≡ false) →
            value_at q (pairs_from 0 (slice_set levels p.length new)) ≡ value_at q (pairs_from 0 levels)
        by_length q apart (inl same) =
            here q (same_numbers p.length q.length same) (same_address p.address q.address ∙ sym (and_true (p.address == q.address))
            ∙ ap (λ b. (p.address == q.address) && b) (sym same) ∙ apart)
        by_length q apart (inr other) = elsewhere q (other_numbers p.length q.length other) (below_or_not q.length (length levels))

    pub change_keeps : AreLevels levels → IsPrefix p.address p.length → IsOrdered nat_cmp new → AreLevels (slice_set levels p.length new)
    change_keeps are form sorted =
        record { long = length-set levels p.length new ∙ are.long; each = λ size d k. by_place size d k (two_ways (size == p.length)) }
      where
        at_new : (a : ℕ) → ContainsKey nat_cmp new a → (is_eq (nat_cmp p.address a) ≡ true) ⊎ (is_eq (nat_cmp p.address a) ≡ false) → IsPrefix a p.length
        at_new a there (inl same) = subst (λ n. IsPrefix n p.length) (same_numbers p.address a (sym (same_address p.address a) ∙ same)) form
        at_new a there (inr other) = (subst (IsLevel p.length) (sym e) (are.each p.length old h)).prefixes a (subst IsSome (u.2 a other) there)

        by_place : (size : ℕ) (d : BTreeMap ℕ T) → size < length (slice_set levels p.length new) →
            ((size == p.length) ≡ true) ⊎ ((size == p.length) ≡ false) → IsLevel size (get_or (slice_set levels p.length new) size d)
        by_place size d k (inl same) =
            subst (λ n. IsLevel n (get_or (slice_set levels p.length new) n d)) (sym (same_numbers size p.length same))
            (subst (IsLevel p.length) (sym (get_or-set_same levels p.length new d h)) (record {
              ascends = sorted;
              prefixes =
                  λ a there. at_new a there (two_ways (is_eq (nat_cmp p.address a)));
            }))
        by_place size d k (inr other) =
            subst (IsLevel size) (sym (get_or-set_other levels p.length size new d (other_numbers size p.length other)))
            (are.each size d (subst (λ n. size < n) (length-set levels p.length new) k))

  -- 5. As the calls of the table cite it
  module _ (levels : List (BTreeMap ℕ T)) (pairs : List (AddressBlock × T)) (i a : ℕ) (d : BTreeMap ℕ T) (p : AddressBlock) (new : BTreeMap ℕ T)
      (value : Option T)
      (view : pairs_from 0 levels ≡ pairs) (are : AreLevels levels) (form : IsPrefix p.address p.length) (at : i ≡ p.length) (address : a ≡ p.address) where
    old : BTreeMap ℕ T
    old = get_or levels p.length d

    there : p.length < length levels
    there = omega (arith, are.long, form.short)

    is_old : old ≡ get_or levels p.length old
    unfolding old
    is_old = get_or_default levels p.length d (get_or levels p.length d) there

    updates : Updates nat_cmp (get_or levels i d) new a value → Updates nat_cmp old new p.address value
    unfolding old
    updates u = subst (λ n. Updates nat_cmp (get_or levels n d) new p.address value) at (subst (λ n. Updates nat_cmp (get_or levels i d) new n value) address u)

    pub call_changes : Updates nat_cmp (get_or levels i d) new a value → ChangesOnly pairs (pairs_from 0 (slice_set levels i new)) p value
    call_changes u =
        subst (λ xs. ChangesOnly xs (pairs_from 0 (slice_set levels i new)) p value) view
        (subst (λ n. ChangesOnly (pairs_from 0 levels) (pairs_from 0 (slice_set levels n new)) p value) (sym at)
        (change_only levels p old new value there is_old (updates u)))

    pub call_keeps : IsOrdered nat_cmp new → Updates nat_cmp (get_or levels i d) new a value → AreLevels (slice_set levels i new)
    call_keeps sorted u =
        subst (λ n. AreLevels (slice_set levels n new)) (sym at) (change_keeps levels p old new value there is_old (updates u) are form sorted)

  -- where nothing was there, and nothing is taken out
  pub nothing_changes : (p : AddressBlock) (pairs new : List (AddressBlock × T)) → new ≡ pairs → None ≡ value_at p pairs → ChangesOnly pairs new p None
  nothing_changes p pairs new same none = record { changed = ap (value_at p) same ∙ sym none; others = λ q apart. ap (value_at q) same }

  pub not_held : {R : Type 0} (p : AddressBlock) (pairs : List (AddressBlock × T)) → None ≡ value_at p pairs → IsSome (value_at p pairs) → R
  not_held p pairs none some = absurd (neither (value_at p pairs) none some)
    where
      neither : (o : Option T) → None ≡ o → IsSome o → ⊥
      neither None e s = cc
      neither (Some x) e s = cc

  -- a level with the entries that it had
  pub same_pairs : (size : ℕ) (levels : List (BTreeMap ℕ T)) (i : ℕ) (d new : BTreeMap ℕ T) → i < length levels →
      new.entries ≡ (get_or levels i d).entries → pairs_from size (slice_set levels i new) ≡ pairs_from size levels
  same_pairs size [] i d new h e = absurd (omega (arith, h))
  same_pairs size (level ∷ levels) zero d new h e = ap (λ es. of_length size es ++ pairs_from (suc size) levels) e
  same_pairs size (level ∷ levels) (suc i) d new h e =
      ap (λ rest. of_length size level.entries ++ rest) (same_pairs (suc size) levels i d new (omega (arith, h)) e)

  -- 6. The level of a length
  level_append : (n : ℕ) (xs ys : List (AddressBlock × T)) → level_of n (xs ++ ys) ≡ level_of n xs ++ level_of n ys
  level_append n xs ys =
      ap (λ es. map (λ (e : AddressBlock × T). (e.0.address, e.1)) es) (filter-append (λ (e : AddressBlock × T). e.0.length == n) xs ys)
      ∙ map-append (λ (e : AddressBlock × T). (e.0.address, e.1)) (filter (λ (e : AddressBlock × T). e.0.length == n) xs)
      (filter (λ (e : AddressBlock × T). e.0.length == n) ys)

  level_same : (n size : ℕ) (es : List (ℕ × T)) → size ≡ n → level_of n (of_length size es) ≡ es
  level_same n size [] h = refl
  level_same n size (e ∷ es) h =
      ap (λ b. map (λ (e : AddressBlock × T). (e.0.address, e.1))
      (cond b ((at_size size e.0, e.1) ∷ filter (λ (e : AddressBlock × T). e.0.length == n) (of_length size es))
      (filter (λ (e : AddressBlock × T). e.0.length == n) (of_length size es)))) (test_same size n h)
      ∙ ap (λ xs. e ∷ xs) (level_same n size es h)

  level_other : (n size : ℕ) (es : List (ℕ × T)) → size ≢ n → level_of n (of_length size es) ≡ []
  level_other n size [] h = refl
  level_other n size (e ∷ es) h =
      ap (λ b. map (λ (e : AddressBlock × T). (e.0.address, e.1))
      (cond b ((at_size size e.0, e.1) ∷ filter (λ (e : AddressBlock × T). e.0.length == n) (of_length size es))
      (filter (λ (e : AddressBlock × T). e.0.length == n) (of_length size es)))) (other_test size n h)
      ∙ level_other n size es h

  level_below : (n size : ℕ) (levels : List (BTreeMap ℕ T)) → n < size → level_of n (pairs_from size levels) ≡ []
  level_below n size [] h = refl
  level_below n size (level ∷ levels) h =
      level_append n (of_length size level.entries) (pairs_from (suc size) levels)
      ∙ ap (λ es. es ++ level_of n (pairs_from (suc size) levels)) (level_other n size level.entries (omega (arith, h)))
      ∙ level_below n (suc size) levels (omega (arith, h))

  level_from : (n size : ℕ) (levels : List (BTreeMap ℕ T)) (i : ℕ) (d : BTreeMap ℕ T) → i < length levels → n ≡ size + i →
      level_of n (pairs_from size levels) ≡ (get_or levels i d).entries
  level_from n size [] i d h e = absurd (omega (arith, h))
  level_from n size (level ∷ levels) zero d h e =
      level_append n (of_length size level.entries) (pairs_from (suc size) levels)
      ∙ ap (λ es. es ++ level_of n (pairs_from (suc size) levels)) (level_same n size level.entries (omega (arith, e)))
      ∙ ap (λ es. level.entries ++ es) (level_below n (suc size) levels (omega (arith, e)))
      ∙ append-nil level.entries
  level_from n size (level ∷ levels) (suc i) d h e =
      level_append n (of_length size level.entries) (pairs_from (suc size) levels)
      ∙ ap (λ es. es ++ level_of n (pairs_from (suc size) levels)) (level_other n size level.entries (omega (arith, e)))
      ∙ level_from n (suc size) levels i d (omega (arith, h)) (omega (arith, e))

  pub level_is : (levels : List (BTreeMap ℕ T)) (n : ℕ) (d : BTreeMap ℕ T) → n < length levels → (get_or levels n d).entries ≡ level_of n (pairs_from 0 levels)
  level_is levels n d h = sym (level_from n 0 levels n d h (omega arith))
