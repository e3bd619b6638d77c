-- The first key of a flight: none is due before it.
use Rattle.std.proofs.Common.{ℕ, ◌≡◌, ◌<◌, ◌≤◌, inl, inr, Bool, true, false, cond, List, [], ◌∷◌, map, filter, refl, arith, sym, ap, ◌∙◌, subst, Option}
use Rattle.std.proofs.Common.{Some, None}
use Rattle.std.specs.Prelude.{◌==◌, ◌&&◌, ◌||◌, nat_lt, nat_le, find, option_map, if◌then◌else◌}
use Rattle.std.specs.List.{list_all}
use Rattle.std.proofs.lemmas.Bool.Decides.{nat_tests}
use Rattle.mn_base.proofs.Bools.{at_most_is, at_most_tells, not_at_most_tells, two_ways}
use Rattle.mn_base.proofs.Members.{In, in_map, map_in}
use Rattle.mn_flight.specs.declared.Item.{Item as ItemOf}
use Rattle.mn_flight.specs.Earliest.{earliest, due_by, goes_before, is_first}
use Rattle.mn_flight.proofs.Members.{IsIn, in_filter, from_filter, all_from, all_at, find_in, find_some}
use Rattle.mn_ledger.specs.Items.{Notices, Notice, Item}
use Rattle.mn_course_laws.specs.Coming.{is_due_before, least}
use Rattle.mn_course_laws.proofs.Leasts.{NoneBefore, IsLeastOf, least_is}
use Rattle.mn_timetable_laws.specs.Keys.{Key, key_of, keys_in}
use Rattle.mn_net_laws.specs.Coming.{goes_first, keys_due, first_key}

-- 1. What contracts say of a flight's earliest item, by keys

module _ {T : Type 0} where
  due_keys : (limit : ℕ) (xs : List (ItemOf T)) → keys_in (due_by limit xs) ≡ keys_due limit (keys_in xs)
  due_keys limit [] = refl
  due_keys limit (x ∷ xs) = by (nat_le x.due limit) (due_keys limit xs)
    where
      by : (b : Bool) → keys_in (due_by limit xs) ≡ keys_due limit (keys_in xs) →
          keys_in (cond b (x ∷ due_by limit xs) (due_by limit xs)) ≡ cond b (key_of x ∷ keys_due limit (keys_in xs)) (keys_due limit (keys_in xs))
      by true e = ap (λ ks. key_of x ∷ ks) e
      by false e = e

  all_keys : (x : ItemOf T) (xs : List (ItemOf T)) → list_all (goes_before x) xs ≡ list_all (goes_first (key_of x)) (keys_in xs)
  all_keys x [] = refl
  all_keys x (y ∷ ys) = ap (λ b. goes_before x y && b) (all_keys x ys)

  found_key : (test : ItemOf T → Bool) (other : Key → Bool) (xs : List (ItemOf T)) → ((x : ItemOf T) → test x ≡ other (key_of x)) →
      option_map key_of (find test xs) ≡ find other (keys_in xs)
  found_key test other [] h = refl
  found_key test other (x ∷ xs) h = ap (λ b. option_map key_of (if b then Some x else find test xs)) (h x) ∙ by (other (key_of x)) (found_key test other xs h)
    where
      by : (b : Bool) → option_map key_of (find test xs) ≡ find other (keys_in xs) →
          option_map key_of (if b then Some x else find test xs) ≡ (if b then Some (key_of x) else find other (keys_in xs))
      by true e = refl
      by false e = e

  pub earliest_key : (limit : ℕ) (xs : List (ItemOf T)) → option_map key_of (earliest limit xs) ≡ first_key limit (keys_in xs)
  earliest_key limit xs =
      found_key (is_first (due_by limit xs)) (λ key. list_all (goes_first key) (keys_in (due_by limit xs))) (due_by limit xs)
      (λ x. all_keys x (due_by limit xs))
      ∙ ap (λ keys. find (λ key. list_all (goes_first key) keys) keys) (due_keys limit xs)

-- 2. It is the first

abbrev pub IsFirst : ℕ → List Key → Option Key → Type 0
IsFirst limit keys None = (key : Key) → IsIn key keys → key.due ≤ limit → ⊥
IsFirst limit keys (Some key) = IsIn key keys × (key.due ≤ limit) × ((other : Key) → IsIn other keys → other.due ≤ limit → goes_first key other ≡ true)

-- a key as an item of the ledger's, for its order alone
abbrev as_item : Key → Item
as_item key = record { number = key.number; due = key.due; on = Notices 0 0; load = Notice }

none_before_goes : (d n e m : ℕ) → is_due_before d n e m ≡ false → (nat_lt e d || ((e == d) && nat_le m n)) ≡ true
none_before_goes d n e m h = grind (arith, nat_tests, h)

some_first : (keys : List Key) (key : Key) → IsIn key keys → (first : Key) × IsIn first keys × ((other : Key) → IsIn other keys → goes_first first other ≡ true)
some_first keys key i = by (least (map as_item keys)) (least_is (map as_item keys))
  where
    turn : {A : Type 0} (x : A) (xs : List A) → IsIn x xs → In xs x
    turn x [] j = absurd j
    turn x (y ∷ ys) j = elim j [ inl e ↦ inl (sym e) | inr k ↦ inr (turn x ys k) ]

    back : {A : Type 0} (x : A) (xs : List A) → In xs x → IsIn x xs
    back x [] j = absurd j
    back x (y ∷ ys) j = elim j [ inl e ↦ inl (sym e) | inr k ↦ inr (back x ys k) ]

    by : (o : Option Item) → IsLeastOf (map as_item keys) o →
        (first : Key) × IsIn first keys × ((other : Key) → IsIn other keys → goes_first first other ≡ true)
    by None h = absurd (subst (λ xs. In xs (as_item key)) h (map_in as_item keys key (turn key keys i)))
    by (Some x) h =
        let m = in_map as_item keys x h.0 in (
          m.0,
          back m.0 keys m.1,
          λ other j. none_before_goes other.due other.number m.0.due m.0.number
              (ap (λ (z : Item). is_due_before other.due other.number z.due z.number) m.2
              ∙ h.1 (as_item other) (map_in as_item keys other (turn other keys j))),
        )

pub first_is : (limit : ℕ) (keys : List Key) → IsFirst limit keys (first_key limit keys)
first_is limit keys = by (first_key limit keys) refl
  where
    by : (o : Option Key) → first_key limit keys ≡ o → IsFirst limit keys o
    by None e = λ key i due.
        let some = some_first (keys_due limit keys) key (in_filter (λ (k : Key). nat_le k.due limit) key keys i (at_most_is key.due limit due)) in
        find_some (λ k. list_all (goes_first k) (keys_due limit keys)) some.0 (keys_due limit keys) some.1
        (all_from (goes_first some.0) (keys_due limit keys) some.2) e
    by (Some key) e =
        let found = find_in (λ k. list_all (goes_first k) (keys_due limit keys)) key (keys_due limit keys) e in
        let there = from_filter (λ (k : Key). nat_le k.due limit) key keys found.1 in (
          there.1,
          at_most_tells key.due limit there.0,
          λ other i due. all_at (goes_first key) other (keys_due limit keys) found.0
              (in_filter (λ (k : Key). nat_le k.due limit) other keys i (at_most_is other.due limit due)),
        )
