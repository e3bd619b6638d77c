-- Routes in order: each name once, the least first; and what is told name by name.
use Rattle.std.proofs.Common.{◌≡◌, ◌⊎◌, inl, inr, Bool, true, false, List, [], ◌∷◌, ◌++◌, filter, refl, sym, ◌∙◌, ap, arith, cond}
use Rattle.std.specs.Prelude.{◌||◌, ◌&&◌, ◌==◌, if◌then◌else◌, nat_lt}
use Rattle.std.specs.List.{flat_map, AllByRecursion}
use Rattle.std.proofs.lemmas.Bool.Decides.{nat_tests}
use Rattle.mn_base.specs.Ordered.{Ascends, IsOrder}
use Rattle.mn_base.proofs.Bools.{no}
use Rattle.mn_base.proofs.Members.{In, in_filter, filter_in}
use Rattle.mn_base.proofs.Orders.{by_number, by_number_then}
use Rattle.mn_base.proofs.Places.{ascends_filter, all_turned}
use Rattle.mn_base.proofs.Kept.{ascending_unique}
use Rattle.mn_reflect_ledger_laws.specs.Words.{Key, same_key, key_before, placed, in_order}
use Rattle.mn_reflect_ledger_laws.proofs.Mentions.{order_in}

-- 1. The order

pub key_order : IsOrder key_before
key_order = by_number_then (λ (k : Key). k.vrf)
    (λ (k l : Key). nat_lt k.prefix.address l.prefix.address || ((k.prefix.address == l.prefix.address) && nat_lt k.prefix.length l.prefix.length))
    (by_number_then (λ (k : Key). k.prefix.address) (λ (k l : Key). nat_lt k.prefix.length l.prefix.length) (by_number (λ (k : Key). k.prefix.length)))

after_it : (key other : Key) → same_key key other ≡ false → key_before key other ≡ false → key_before other key ≡ true
after_it key other h g = grind (arith, nat_tests, h, g)

all_placed : (P : Key → Type 0) (key : Key) (keys : List Key) → P key → AllByRecursion P keys → AllByRecursion P (placed key keys)
all_placed P key [] h g = (h, tt)
all_placed P key (other ∷ others) h g = by (same_key key other) (key_before key other) (all_placed P key others h g.1)
  where
    by : (b c : Bool) → AllByRecursion P (placed key others) →
        AllByRecursion P (if b then other ∷ others else if c then key ∷ other ∷ others else other ∷ placed key others)
    by true c more = g
    by false true more = (h, g)
    by false false more = (g.0, more)

placed_up : (key : Key) (keys : List Key) → Ascends key_before keys → Ascends key_before (placed key keys)
placed_up key [] up = (tt, tt)
placed_up key (other ∷ others) up = by (same_key key other) refl (key_before key other) refl (placed_up key others up.1)
  where
    by : (b : Bool) → same_key key other ≡ b → (c : Bool) → key_before key other ≡ c → Ascends key_before (placed key others) →
        Ascends key_before (if b then other ∷ others else if c then key ∷ other ∷ others else other ∷ placed key others)
    by true e c f more = up
    by false e true f more = (
      (
        f,
        all_turned (λ y. key_before other y ≡ true) (λ y. key_before key y ≡ true)
            (λ y h. key_order.onward key other y f h) others up.0,
      ),
      up,
    )
    by false e false f more = (all_placed (λ y. key_before other y ≡ true) key others (after_it key other e f) up.0, more)

pub order_up : (keys : List Key) → Ascends key_before (in_order keys)
order_up [] = tt
order_up (key ∷ keys) = placed_up key (in_order keys) (order_up keys)

in_placed : (key : Key) (keys : List Key) (x : Key) → In (placed key keys) x → (key ≡ x) ⊎ In keys x
in_placed key [] x i = elim i [ inl e ↦ inl e | inr j ↦ absurd j ]
in_placed key (other ∷ others) x i = by (same_key key other) (key_before key other) (in_placed key others x) i
  where
    by : (b c : Bool) → (In (placed key others) x → (key ≡ x) ⊎ In others x) →
        In (if b then other ∷ others else if c then key ∷ other ∷ others else other ∷ placed key others) x → (key ≡ x) ⊎ In (other ∷ others) x
    by true c more j = inr j
    by false true more j = elim j [ inl e ↦ inl e | inr k ↦ inr k ]
    by false false more j = elim j [ inl e ↦ inr (inl e) | inr k ↦ elim (more k) [ inl e ↦ inl e | inr m ↦ inr (inr m) ] ]

pub in_ordered : (keys : List Key) (x : Key) → In (in_order keys) x → In keys x
in_ordered [] x i = i
in_ordered (key ∷ keys) x i = elim (in_placed key (in_order keys) x i) [ inl e ↦ inl e | inr j ↦ inr (in_ordered keys x j) ]

-- the ascending list of the same names
pub in_order_is : (keys sorted : List Key) → Ascends key_before sorted → ((k : Key) → In sorted k → In keys k) → ((k : Key) → In keys k → In sorted k) →
    in_order keys ≡ sorted
in_order_is keys sorted up only all =
    ascending_unique key_before key_order (in_order keys) sorted (order_up keys) up (λ k i. all k (in_ordered keys k i)) (λ k i. order_in keys k (only k i))

-- 2. What is told name by name

module _ {B : Type 0} (told : Key → List B) where
  is_some_told : List B → Bool
  is_some_told [] = false
  is_some_told (x ∷ xs) = true

  tells : Key → Bool
  tells key = is_some_told (told key)

  nothing : (xs : List B) → is_some_told xs ≡ false → xs ≡ []
  unfolding is_some_told
  nothing [] h = refl
  nothing (x ∷ xs) h = absurd (no (sym h))

  told_none : (key : Key) → told key ≡ [] → tells key ≡ true → ⊥
  unfolding tells is_some_told
  told_none key h g = no (sym (ap is_some_told h) ∙ g)

  telling_ones : (keys : List Key) → flat_map told keys ≡ flat_map told (filter tells keys)
  unfolding tells
  telling_ones [] = refl
  telling_ones (key ∷ keys) = by (is_some_told (told key)) refl (telling_ones keys)
    where
      by : (b : Bool) → is_some_told (told key) ≡ b → flat_map told keys ≡ flat_map told (filter tells keys) →
          told key ++ flat_map told keys ≡ flat_map told (cond b (key ∷ filter tells keys) (filter tells keys))
      by true e h = ap (λ xs. told key ++ xs) h
      by false e h = ap (λ xs. xs ++ flat_map told keys) (nothing (told key) e) ∙ h

  -- of two lists of names in order, where what is told of a name that is in one alone is nothing, the same is told
  pub sift : (xs ys : List Key) → Ascends key_before xs → Ascends key_before ys → ((k : Key) → In xs k → (told k ≡ []) ⊎ In ys k) →
      ((k : Key) → In ys k → (told k ≡ []) ⊎ In xs k) → flat_map told xs ≡ flat_map told ys
  sift xs ys up vp f g =
      telling_ones xs
      ∙ ap (flat_map told)
      (ascending_unique key_before key_order (filter tells xs) (filter tells ys) (ascends_filter key_before tells xs up) (ascends_filter key_before tells ys vp)
      (λ k i. let m = in_filter tells xs k i in
      elim (f k m.0) [ inl e ↦ absurd (told_none k e m.1) | inr j ↦ filter_in tells ys k j m.1 ])
      (λ k i. let m = in_filter tells ys k i in
      elim (g k m.0) [ inl e ↦ absurd (told_none k e m.1) | inr j ↦ filter_in tells xs k j m.1 ]))
      ∙ sym (telling_ones ys)
