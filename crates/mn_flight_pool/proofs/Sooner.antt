-- Nodes in the order of their items' due ticks and numbers, and the ticks with their last nodes.
use Rattle.std.proofs.Common.{◌≡◌, ◌<◌, ◌≤◌, ◌⊎◌, inl, inr, ℕ, Bool, true, false, cond, nat_lt, nat_le, List, [], ◌∷◌, ◌++◌, length, Option, Some, None}
use Rattle.std.proofs.Common.{refl, sym, ap, ◌∙◌, subst, arith, length-append}
use Rattle.std.specs.Prelude.{◌==◌}
use Rattle.std.specs.List.{AllByRecursion}
use Rattle.mn_base.proofs.Bools.{at_most_tells, less_tells, not_at_most_tells, not_less_tells, other_numbers, same_numbers}
use Rattle.mn_flight.specs.declared.Item.{Item}
use Rattle.mn_flight_pool.specs.Rings.{IsIn, item_at}
use Rattle.mn_flight_pool.specs.Ticks.{tick_at, AreAscending, last_by, put_tick, set_tick, drop_tick}
use Rattle.mn_flight_pool.specs.ByDue.{IsSooner, AreSooner, IsLastAt, HasTick}
use Rattle.mn_flight_pool.specs.declared.tick.Tick.{Tick}
use Rattle.mn_flight_pool.specs.Nodes.{Node}

-- 1. Members and where they stand
pub in_cut : (p : ℕ) (xs : List ℕ) → IsIn p xs → (us : List ℕ) × (vs : List ℕ) × (xs ≡ us ++ p ∷ vs)
in_cut p [] i = absurd i
in_cut p (x ∷ xs) (inl e) = ([], xs, ap (λ q. q ∷ xs) (sym e))
in_cut p (x ∷ xs) (inr j) = let on = in_cut p xs j in (x ∷ on.0, on.1, ap (λ l. x ∷ l) on.2)

pub in_front : (q : ℕ) (us vs : List ℕ) → IsIn q us → IsIn q (us ++ vs)
in_front q [] vs i = absurd i
in_front q (u ∷ us) vs (inl e) = inl e
in_front q (u ∷ us) vs (inr j) = inr (in_front q us vs j)

pub in_back : (q : ℕ) (us vs : List ℕ) → IsIn q vs → IsIn q (us ++ vs)
in_back q [] vs i = i
in_back q (u ∷ us) vs i = inr (in_back q us vs i)

pub in_either : (q : ℕ) (us vs : List ℕ) → IsIn q (us ++ vs) → IsIn q us ⊎ IsIn q vs
in_either q [] vs i = inr i
in_either q (u ∷ us) vs (inl e) = inl (inl e)
in_either q (u ∷ us) vs (inr j) = elim (in_either q us vs j) [ inl k ↦ inl (inr k) | inr k ↦ inr k ]

pub in_with : (q : ℕ) (us : List ℕ) (p : ℕ) (vs : List ℕ) → IsIn q (us ++ vs) → IsIn q (us ++ p ∷ vs)
in_with q us p vs i = elim (in_either q us vs i) [ inl k ↦ in_front q us (p ∷ vs) k | inr k ↦ in_back q us (p ∷ vs) (inr k) ]

pub in_without : (q : ℕ) (us : List ℕ) (p : ℕ) (vs : List ℕ) → IsIn q (us ++ p ∷ vs) → (q ≡ p → ⊥) → IsIn q (us ++ vs)
in_without q us p vs i other = elim (in_either q us (p ∷ vs) i) [
  | inl k ↦ in_front q us vs k
  | inr k ↦ elim k [ inl e ↦ absurd (other e) | inr j ↦ in_back q us vs j ]
]

pub in_middle : (us : List ℕ) (p : ℕ) (vs : List ℕ) → IsIn p (us ++ p ∷ vs)
in_middle us p vs = in_back p us (p ∷ vs) (inl refl)

pub all_in : (P : ℕ → Type 0) (xs : List ℕ) (q : ℕ) → AllByRecursion P xs → IsIn q xs → P q
all_in P [] q h i = absurd i
all_in P (y ∷ ys) q h i = elim i [ inl e ↦ subst P (sym e) h.0 | inr j ↦ all_in P ys q h.1 j ]

pub all_from : (P : ℕ → Type 0) (xs : List ℕ) → ((q : ℕ) → IsIn q xs → P q) → AllByRecursion P xs
all_from P [] h = tt
all_from P (y ∷ ys) h = (h y (inl refl), all_from P ys (λ q i. h q (inr i)))

module _ {T : Type 0} where
  -- 2. The order by due tick and number
  pub sooner_same : (old new : List (Node T)) (ps : List ℕ) →
      ((q : ℕ) → IsIn q ps → item_at new q ≡ item_at old q) → AreSooner old ps → AreSooner new ps
  sooner_same old new [] same h = tt
  sooner_same old new (p ∷ ps) same h = (
    all_from (λ q. IsSooner (item_at new p) (item_at new q)) ps
        (λ q i. subst (λ o. IsSooner o (item_at new q)) (sym (same p (inl refl)))
        (subst (λ o. IsSooner (item_at old p) o) (sym (same q (inr i))) (all_in (λ r. IsSooner (item_at old p) (item_at old r)) ps q h.0 i))),
    sooner_same old new ps (λ q i. same q (inr i)) h.1,
  )

  module _ (cells : List (Node T)) where
    abbrev Sooner : ℕ → ℕ → Type 0
    Sooner p q = IsSooner (item_at cells p) (item_at cells q)

    pub sooner_with : (us : List ℕ) (p : ℕ) (vs : List ℕ) → ((u : ℕ) → IsIn u us → Sooner u p) →
        ((v : ℕ) → IsIn v vs → Sooner p v) → AreSooner cells (us ++ vs) → AreSooner cells (us ++ p ∷ vs)
    sooner_with [] p vs f g h = (all_from (λ q. Sooner p q) vs g, h)
    sooner_with (u ∷ us) p vs f g h = (
      all_from (λ q. Sooner u q) (us ++ p ∷ vs) (λ q i. elim (in_either q us (p ∷ vs) i) [
        | inl k ↦ all_in (λ r. Sooner u r) (us ++ vs) q h.0 (in_front q us vs k)
        | inr k ↦ elim k [ inl e ↦ subst (λ r. Sooner u r) (sym e) (f u (inl refl)) | inr j ↦ all_in (λ r. Sooner u r) (us ++ vs) q h.0 (in_back q us vs j) ]
      ]),
      sooner_with us p vs (λ w i. f w (inr i)) g h.1,
    )

    pub sooner_without : (us : List ℕ) (p : ℕ) (vs : List ℕ) → AreSooner cells (us ++ p ∷ vs) → AreSooner cells (us ++ vs)
    sooner_without [] p vs h = h.1
    sooner_without (u ∷ us) p vs h =
        (all_from (λ q. Sooner u q) (us ++ vs) (λ q i. all_in (λ r. Sooner u r) (us ++ p ∷ vs) q h.0 (in_with q us p vs i)), sooner_without us p vs h.1)

    pub sooner_before : (us : List ℕ) (p : ℕ) (vs : List ℕ) → AreSooner cells (us ++ p ∷ vs) → (u : ℕ) → IsIn u us → Sooner u p
    sooner_before [] p vs h u i = absurd i
    sooner_before (w ∷ us) p vs h u (inl e) = subst (λ r. Sooner r p) (sym e) (all_in (λ r. Sooner w r) (us ++ p ∷ vs) p h.0 (in_middle us p vs))
    sooner_before (w ∷ us) p vs h u (inr j) = sooner_before us p vs h.1 u j

    pub sooner_after : (us : List ℕ) (p : ℕ) (vs : List ℕ) → AreSooner cells (us ++ p ∷ vs) → (v : ℕ) → IsIn v vs → Sooner p v
    sooner_after [] p vs h v i = all_in (λ r. Sooner p r) vs v h.0 i
    sooner_after (w ∷ us) p vs h v i = sooner_after us p vs h.1 v i

  -- two items in this order, or not
  abbrev Before : Item T → Item T → Type 0
  Before a b = (a.due < b.due) ⊎ ((a.due ≡ b.due) × (a.number < b.number))

  pub as_items : (a b : Option (Item T)) (x y : Item T) → a ≡ Some x → b ≡ Some y → IsSooner a b → Before x y
  as_items a b x y e f h = subst (λ o. IsSooner (Some x) o) f (subst (λ o. IsSooner o b) e h)

  pub of_items : (a b : Option (Item T)) (x y : Item T) → a ≡ Some x → b ≡ Some y → Before x y → IsSooner a b
  of_items a b x y e f h = subst (λ o. IsSooner o b) (sym e) (subst (λ o. IsSooner (Some x) o) (sym f) h)

  pub no_later : (x y : Item T) → Before x y → x.due ≤ y.due
  no_later x y (inl h) = omega (arith, h)
  no_later x y (inr h) = omega (arith, h.0)

  -- an item that none of its tick passes is not before another of its tick
  pub not_before : (x y : Item T) → Before x y → x.due ≡ y.due → y.number ≤ x.number → ⊥
  not_before x y (inl h) e k = omega (arith, h, e)
  not_before x y (inr h) e k = omega (arith, h.1, k)

  pub number_before : (x y : Item T) → Before x y → x.due ≡ y.due → x.number ≤ y.number
  number_before x y (inl h) e = absurd (omega (arith, h, e))
  number_before x y (inr h) e = omega (arith, h.1)

  -- 3. Last nodes of ticks
  pub tick_item : (cells : List (Node T)) (order : List ℕ) (due : ℕ) (o : Option (Item T)) → IsLastAt cells order due o
      → (last : Item T) × (o ≡ Some last) × (last.due ≡ due) × ((q : ℕ) (item : Item T) → IsIn q order → item_at cells q ≡ Some item → item.due ≡ due →
      item.number ≤ last.number)
  tick_item cells order due None h = absurd h
  tick_item cells order due (Some last) h = (last, refl, h.0, h.1)

  pub item_tick : (cells : List (Node T)) (order : List ℕ) (due : ℕ) (o : Option (Item T)) (last : Item T) → o ≡ Some last → last.due ≡ due →
      ((q : ℕ) (item : Item T) → IsIn q order → item_at cells q ≡ Some item → item.due ≡ due → item.number ≤ last.number)
      → IsLastAt cells order due o
  item_tick cells order due o last e f h = subst (λ r. IsLastAt cells order due r) (sym e) (f, h)

-- 4. Changes of ticks

all_ticks : (P Q : Tick → Type 0) (ts : List Tick) → ((t : Tick) → P t → Q t) → AllByRecursion P ts → AllByRecursion Q ts
all_ticks P Q [] f h = tt
all_ticks P Q (t ∷ ts) f h = (f t h.0, all_ticks P Q ts f h.1)

both_ticks : (P Q : Tick → Type 0) (ts : List Tick) → AllByRecursion P ts → AllByRecursion Q ts → AllByRecursion (λ t. P t × Q t) ts
both_ticks P Q [] g h = tt
both_ticks P Q (t ∷ ts) g h = ((g.0, h.0), both_ticks P Q ts g.1 h.1)

later_has : (n : ℕ) (ts : List Tick) → AllByRecursion (λ later. n < later.due) ts → (e : ℕ) → HasTick e ts → n < e
later_has n [] h e i = absurd i
later_has n (t ∷ ts) h e (inl f) = let first : n < t.due = h.0 in omega (arith, first, f)
later_has n (t ∷ ts) h e (inr j) = later_has n ts h.1 e j

-- the last tick that is not after one
pub last_by_is : (P : Tick → Type 0) (due : ℕ) (s : ℕ) (ts : List Tick) → AreAscending ts → AllByRecursion P ts
    → ((last_by due s ts ≡ s) × ((e : ℕ) → HasTick e ts → due < e)) ⊎ ((t : Tick) × (P t) × (t.due ≤ due) × (last_by due s ts ≡ t.last.index)
    × ((e : ℕ) → HasTick e ts → e ≤ due → e ≤ t.due) × HasTick t.due ts)
last_by_is P due s [] up h = inl (refl, λ e i. absurd i)
last_by_is P due s (t ∷ ts) up h = by (nat_le t.due due) refl (last_by_is P due t.last.index ts up.1 h.1)
  where
    by : (b : Bool) → nat_le t.due due ≡ b
        → ((last_by due t.last.index ts ≡ t.last.index) × ((e : ℕ) → HasTick e ts → due < e)) ⊎
        ((u : Tick) × (P u) × (u.due ≤ due) × (last_by due t.last.index ts ≡ u.last.index) × ((e : ℕ) → HasTick e ts → e ≤ due → e ≤ u.due)
        × HasTick u.due ts)
        → ((cond b (last_by due t.last.index ts) s ≡ s) × ((e : ℕ) → HasTick e (t ∷ ts) → due < e)) ⊎
        ((u : Tick) × (P u) × (u.due ≤ due) × (cond b (last_by due t.last.index ts) s ≡ u.last.index) × ((e : ℕ) → HasTick e (t ∷ ts) → e ≤ due → e ≤ u.due)
        × HasTick u.due (t ∷ ts))
    by true le (inl rest) =
        inr (
          t,
          h.0,
          at_most_tells t.due due le,
          rest.0,
          λ e i k. elim i [ inl f ↦ omega (arith, f) | inr j ↦ absurd (omega (arith, rest.1 e j, k)) ],
          inl
              refl,
        )
    by true le (inr rest) =
        inr (
          rest.0,
          rest.1,
          rest.2,
          rest.3,
          λ e i k. elim i [ inl f ↦ omega (arith, f, later_has t.due ts up.0 rest.0.due rest.5) | inr j ↦ rest.4 e j k ],
          inr rest.5,
        )
    by false gt rest =
        inl (
          refl,
          λ e i. elim i [
            | inl f ↦ omega (arith, not_at_most_tells t.due due gt, f)
            | inr j ↦ omega
                (arith, not_at_most_tells t.due due gt, later_has t.due ts up.0 e j)
          ],
        )

-- a tick that is put, and those that are kept
pub asc_put : (due : ℕ) (p : ℕ) (ts : List Tick) → AreAscending ts → AreAscending (put_tick due p ts)
asc_put due p [] up = (tt, tt)
asc_put due p (t ∷ ts) up = by (nat_lt t.due due) refl (asc_put due p ts up.1) (t.due == due) refl
  where
    after_put : t.due < due → (l : List Tick) → AllByRecursion (λ later. t.due < later.due) l → AllByRecursion (λ later. t.due < later.due) (put_tick due p l)
    after_put h [] all = (h, tt)
    after_put h (u ∷ us) all = split (nat_lt u.due due) (after_put h us all.1)
      where
        split : (b : Bool) → AllByRecursion (λ later. t.due < later.due) (put_tick due p us) →
            AllByRecursion (λ later. t.due < later.due) (cond b (u ∷ put_tick due p us) (tick_at due p ∷ cond (u.due == due) us (u ∷ us)))
        split true rest = (all.0, rest)
        split false rest = (h, kept (u.due == due))
          where
            kept : (b : Bool) → AllByRecursion (λ later. t.due < later.due) (cond b us (u ∷ us))
            kept true = all.1
            kept false = all

    by : (b : Bool) → nat_lt t.due due ≡ b → AreAscending (put_tick due p ts) → (c : Bool) →
        (t.due == due) ≡ c → AreAscending (cond b (t ∷ put_tick due p ts) (tick_at due p ∷ cond c ts (t ∷ ts)))
    by true l rest c e = (after_put (less_tells t.due due l) ts up.0, rest)
    by false l rest true e = (subst (λ n. AllByRecursion (λ (later : Tick). n < later.due) ts) (same_numbers t.due due e) up.0, up.1)
    by false l rest false e =
        let later : due < t.due = strictly (not_less_tells t.due due l) (other_numbers t.due due e) in
        ((later, all_ticks (λ u. t.due < u.due) (λ u. due < u.due) ts (λ u k. omega (arith, later, k)) up.0), up)
      where
        strictly : due ≤ t.due → (t.due ≡ due → ⊥) → due < t.due
        strictly h n = further (nat_lt due t.due) refl
          where
            further : (b : Bool) → nat_lt due t.due ≡ b → due < t.due
            further true k = less_tells due t.due k
            further false k = absurd (n (omega (arith, h, not_less_tells due t.due k)))

pub all_put : (P Q : Tick → Type 0) (due : ℕ) (p : ℕ) (ts : List Tick) →
    ((t : Tick) → (t.due ≡ due → ⊥) → P t → Q t) → Q (tick_at due p) → AreAscending ts → AllByRecursion P ts → AllByRecursion Q (put_tick due p ts)
all_put P Q due p [] f q up h = (q, tt)
all_put P Q due p (t ∷ ts) f q up h = by (nat_lt t.due due) refl (all_put P Q due p ts f q up.1 h.1) (t.due == due) refl
  where
    after : due ≤ t.due → AllByRecursion Q ts
    after k = all_ticks (λ u. P u × (t.due < u.due)) Q ts (λ u g. f u (λ e. omega (arith, e, k, g.1)) g.0) (both_ticks P (λ u. t.due < u.due) ts h.1 up.0)

    by : (b : Bool) → nat_lt t.due due ≡ b → AllByRecursion Q (put_tick due p ts) → (c : Bool) →
        (t.due == due) ≡ c → AllByRecursion Q (cond b (t ∷ put_tick due p ts) (tick_at due p ∷ cond c ts (t ∷ ts)))
    by true l rest c e = let less : t.due < due = less_tells t.due due l in (f t (λ k. omega (arith, k, less)) h.0, rest)
    by false l rest true e = (q, after (not_less_tells t.due due l))
    by false l rest false e = (q, (f t (other_numbers t.due due e) h.0, after (not_less_tells t.due due l)))

pub has_new : (due : ℕ) (p : ℕ) (ts : List Tick) → HasTick due (put_tick due p ts)
has_new due p [] = inl refl
has_new due p (t ∷ ts) = by (nat_lt t.due due) (has_new due p ts)
  where
    by : (b : Bool) → HasTick due (put_tick due p ts) → HasTick due (cond b (t ∷ put_tick due p ts) (tick_at due p ∷ cond (t.due == due) ts (t ∷ ts)))
    by true rest = inr rest
    by false rest = inl refl

pub has_put : (e due : ℕ) (p : ℕ) (ts : List Tick) → HasTick e ts → HasTick e (put_tick due p ts)
has_put e due p [] i = absurd i
has_put e due p (t ∷ ts) i = by (nat_lt t.due due) (has_put e due p ts) (t.due == due) refl
  where
    by : (b : Bool) → (HasTick e ts → HasTick e (put_tick due p ts)) → (c : Bool) →
        (t.due == due) ≡ c → HasTick e (cond b (t ∷ put_tick due p ts) (tick_at due p ∷ cond c ts (t ∷ ts)))
    by true rest c k = elim i [ inl f ↦ inl f | inr j ↦ inr (rest j) ]
    by false rest true k = elim i [ inl f ↦ inl (sym (same_numbers t.due due k) ∙ f) | inr j ↦ inr j ]
    by false rest false k = inr i

-- a tick that has another last node, or is gone
pub asc_set : (due : ℕ) (p : ℕ) (ts : List Tick) → AreAscending ts → AreAscending (set_tick due p ts)
asc_set due p [] up = tt
asc_set due p (t ∷ ts) up = by (t.due == due) refl (asc_set due p ts up.1)
  where
    after_set : (n : ℕ) (l : List Tick) → AllByRecursion (λ later. n < later.due) l → AllByRecursion (λ later. n < later.due) (set_tick due p l)
    after_set n [] all = tt
    after_set n (u ∷ us) all = split (u.due == due) refl (after_set n us all.1)
      where
        split : (b : Bool) → (u.due == due) ≡ b → AllByRecursion (λ later. n < later.due) (set_tick due p us) →
            AllByRecursion (λ later. n < later.due) (cond b (tick_at due p ∷ us) (u ∷ set_tick due p us))
        split true e rest = (subst (λ m. n < m) (same_numbers u.due due e) all.0, all.1)
        split false e rest = (all.0, rest)

    by : (b : Bool) → (t.due == due) ≡ b → AreAscending (set_tick due p ts) → AreAscending (cond b (tick_at due p ∷ ts) (t ∷ set_tick due p ts))
    by true e rest = (subst (λ n. AllByRecursion (λ (later : Tick). n < later.due) ts) (same_numbers t.due due e) up.0, up.1)
    by false e rest = (after_set t.due ts up.0, rest)

pub asc_drop : (due : ℕ) (ts : List Tick) → AreAscending ts → AreAscending (drop_tick due ts)
asc_drop due [] up = tt
asc_drop due (t ∷ ts) up = by (t.due == due) (asc_drop due ts up.1)
  where
    after_drop : (n : ℕ) (l : List Tick) → AllByRecursion (λ later. n < later.due) l → AllByRecursion (λ later. n < later.due) (drop_tick due l)
    after_drop n [] all = tt
    after_drop n (u ∷ us) all = split (u.due == due) (after_drop n us all.1)
      where
        split : (b : Bool) → AllByRecursion (λ later. n < later.due) (drop_tick due us) →
            AllByRecursion (λ later. n < later.due) (cond b us (u ∷ drop_tick due us))
        split true rest = all.1
        split false rest = (all.0, rest)

    by : (b : Bool) → AreAscending (drop_tick due ts) → AreAscending (cond b ts (t ∷ drop_tick due ts))
    by true rest = up.1
    by false rest = (after_drop t.due ts up.0, rest)

-- of ticks that ascend, those behind this one are others
others : (P Q : Tick → Type 0) (due : ℕ) (t : Tick) (ts : List Tick) → t.due ≡ due →
    ((u : Tick) → (u.due ≡ due → ⊥) → P u → Q u) → AllByRecursion (λ later. t.due < later.due) ts → AllByRecursion P ts → AllByRecursion Q ts
others P Q due t ts e f up h =
    all_ticks (λ u. P u × (t.due < u.due)) Q ts (λ u g. f u (λ k. omega (arith, e, k, g.1)) g.0) (both_ticks P (λ u. t.due < u.due) ts h up)

pub all_set : (P Q : Tick → Type 0) (due : ℕ) (p : ℕ) (ts : List Tick) →
    ((t : Tick) → (t.due ≡ due → ⊥) → P t → Q t) → Q (tick_at due p) → AreAscending ts → AllByRecursion P ts → AllByRecursion Q (set_tick due p ts)
all_set P Q due p [] f q up h = tt
all_set P Q due p (t ∷ ts) f q up h = by (t.due == due) refl (all_set P Q due p ts f q up.1 h.1)
  where
    by : (b : Bool) → (t.due == due) ≡ b → AllByRecursion Q (set_tick due p ts) → AllByRecursion Q (cond b (tick_at due p ∷ ts) (t ∷ set_tick due p ts))
    by true e rest = (q, others P Q due t ts (same_numbers t.due due e) f up.0 h.1)
    by false e rest = (f t (other_numbers t.due due e) h.0, rest)

pub all_drop : (P Q : Tick → Type 0) (due : ℕ) (ts : List Tick) → ((t : Tick) → (t.due ≡ due → ⊥) → P t → Q t) → AreAscending ts → AllByRecursion P ts →
    AllByRecursion Q (drop_tick due ts)
all_drop P Q due [] f up h = tt
all_drop P Q due (t ∷ ts) f up h = by (t.due == due) refl (all_drop P Q due ts f up.1 h.1)
  where
    by : (b : Bool) → (t.due == due) ≡ b → AllByRecursion Q (drop_tick due ts) → AllByRecursion Q (cond b ts (t ∷ drop_tick due ts))
    by true e rest = others P Q due t ts (same_numbers t.due due e) f up.0 h.1
    by false e rest = (f t (other_numbers t.due due e) h.0, rest)

pub all_kept : (P Q : Tick → Type 0) (ts : List Tick) → ((t : Tick) → P t → Q t) → AllByRecursion P ts → AllByRecursion Q ts
all_kept P Q ts f h = all_ticks P Q ts f h

pub has_set : (e due : ℕ) (p : ℕ) (ts : List Tick) → HasTick e ts → HasTick e (set_tick due p ts)
has_set e due p [] i = absurd i
has_set e due p (t ∷ ts) i = by (t.due == due) refl (has_set e due p ts)
  where
    by : (b : Bool) → (t.due == due) ≡ b → (HasTick e ts → HasTick e (set_tick due p ts)) → HasTick e (cond b (tick_at due p ∷ ts) (t ∷ set_tick due p ts))
    by true k rest = elim i [ inl f ↦ inl (sym (same_numbers t.due due k) ∙ f) | inr j ↦ inr j ]
    by false k rest = elim i [ inl f ↦ inl f | inr j ↦ inr (rest j) ]

pub has_drop : (e due : ℕ) (ts : List Tick) → (e ≡ due → ⊥) → HasTick e ts → HasTick e (drop_tick due ts)
has_drop e due [] n i = absurd i
has_drop e due (t ∷ ts) n i = by (t.due == due) refl (has_drop e due ts n)
  where
    by : (b : Bool) → (t.due == due) ≡ b → (HasTick e ts → HasTick e (drop_tick due ts)) → HasTick e (cond b ts (t ∷ drop_tick due ts))
    by true k rest = elim i [ inl f ↦ absurd (n (sym f ∙ same_numbers t.due due k)) | inr j ↦ j ]
    by false k rest = elim i [ inl f ↦ inl f | inr j ↦ inr (rest j) ]

-- ticks that ascend, with the due ticks of their nodes, are no more than the nodes
pub fewer : (due_at : ℕ → ℕ) (ts : List Tick) (ps : List ℕ) → AreAscending ts →
    AllByRecursion (λ t. IsIn t.last.index ps × (due_at t.last.index ≡ t.due)) ts → length ts ≤ length ps
fewer due_at [] ps up h = omega arith
fewer due_at (t ∷ ts) ps up h =
    let cut = in_cut t.last.index ps h.0.0 in
    let rest =
    fewer due_at ts (cut.0 ++ cut.1) up.1
    (all_ticks (λ u. (IsIn u.last.index ps × (due_at u.last.index ≡ u.due)) × (t.due < u.due))
    (λ u. IsIn u.last.index (cut.0 ++ cut.1) × (due_at u.last.index ≡ u.due)) ts
    (λ u g. (
      in_without u.last.index cut.0 t.last.index cut.1 (subst (λ l. IsIn u.last.index l) cut.2 g.0.0)
          (λ e. omega (arith, g.1, g.0.1, h.0.1, ap due_at e)),
      g.0.1,
    ))
    (both_ticks (λ u. IsIn u.last.index ps × (due_at u.last.index ≡ u.due)) (λ u. t.due < u.due) ts h.1 up.0)) in
    omega (arith, rest, length-append cut.0 cut.1, length-append cut.0 (t.last.index ∷ cut.1), ap length cut.2)
