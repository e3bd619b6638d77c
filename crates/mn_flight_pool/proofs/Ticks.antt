-- Ticks that ascend: where one stands, and what a change at its place gives.
use Rattle.std.proofs.Common.{◌≡◌, ◌<◌, ◌≤◌, ◌-◌, ℕ, zero, suc, Bool, true, false, cond, nat_lt, nat_le, List, [], ◌∷◌, length, refl, sym, ap, ◌∙◌, subst}
use Rattle.std.proofs.Common.{arith}
use Rattle.std.specs.Prelude.{◌==◌, slice_index_or, slice_set, insert, remove}
use Rattle.std.specs.List.{AllByRecursion}
use Rattle.mn_base.proofs.Bools.{at_most_is, less_is, less_tells, not_at_most, not_less, not_less_tells, other_test, test_same}
use Rattle.mn_flight_pool.specs.Ticks.{tick_at, AreAscending, earlier, last_by, put_tick, set_tick, drop_tick, IsFound, IsMissing}
use Rattle.mn_flight_pool.specs.declared.tick.Tick.{Tick}

-- what holds of the tick at a place among those that all meet it
all_place : (P : Tick → Type 0) (ts : List Tick) (k : ℕ) (d : Tick) → AllByRecursion P ts → k < length ts → P (slice_index_or ts k d)
all_place P [] k d h below = absurd (omega (arith, below))
all_place P (t ∷ ts) zero d h below = h.0
all_place P (t ∷ ts) (suc k) d h below = all_place P ts k d h.1 (omega (arith, below))

any_default : (ts : List Tick) (k : ℕ) (d e : Tick) → k < length ts → slice_index_or ts k d ≡ slice_index_or ts k e
any_default [] k d e below = absurd (omega (arith, below))
any_default (t ∷ ts) zero d e below = refl
any_default (t ∷ ts) (suc k) d e below = any_default ts k d e (omega (arith, below))

-- 1. How many are before
pub earlier_within : (due : ℕ) (ts : List Tick) → earlier due ts ≤ length ts
earlier_within due [] = omega arith
earlier_within due (t ∷ ts) = by (nat_lt t.due due) (earlier_within due ts)
  where
    by : (b : Bool) → earlier due ts ≤ length ts → cond b (suc (earlier due ts)) 0 ≤ suc (length ts)
    by true h = omega (arith, h)
    by false h = omega arith

pub earlier_past : (due : ℕ) (ts : List Tick) (m : ℕ) (d : Tick) → AreAscending ts → m < length ts → (slice_index_or ts m d).due < due → m < earlier due ts
earlier_past due [] m d up below h = absurd (omega (arith, below))
earlier_past due (t ∷ ts) zero d up below h = rw (less_is t.due due h) (omega arith)
earlier_past due (t ∷ ts) (suc m) d up below h =
    let there : m < length ts = omega (arith, below) in
    let next : t.due < (slice_index_or ts m d).due = all_place (λ later. t.due < later.due) ts m d up.0 there in
    rw (less_is t.due due (omega (arith, next, h))) (omega (arith, earlier_past due ts m d up.1 there h))

pub earlier_upto : (due : ℕ) (ts : List Tick) (m : ℕ) (d : Tick) → m < length ts → due ≤ (slice_index_or ts m d).due → earlier due ts ≤ m
earlier_upto due [] m d below h = absurd (omega (arith, below))
earlier_upto due (t ∷ ts) zero d below h = rw (not_less t.due due h) (omega arith)
earlier_upto due (t ∷ ts) (suc m) d below h = by (nat_lt t.due due) (earlier_upto due ts m d (omega (arith, below)) h)
  where
    by : (b : Bool) → earlier due ts ≤ m → cond b (suc (earlier due ts)) 0 ≤ suc m
    by true k = omega (arith, k)
    by false k = omega arith

-- the one at that place is not before, so where it's another it is later
pub not_earlier : (due : ℕ) (ts : List Tick) (d : Tick) → earlier due ts < length ts → due ≤ (slice_index_or ts (earlier due ts) d).due
not_earlier due [] d h = absurd (omega (arith, h))
not_earlier due (t ∷ ts) d h = by (nat_lt t.due due) refl h (not_earlier due ts d)
  where
    by : (b : Bool) → nat_lt t.due due ≡ b → cond b (suc (earlier due ts)) 0 < suc (length ts) →
        (earlier due ts < length ts → due ≤ (slice_index_or ts (earlier due ts) d).due) →
        due ≤ (slice_index_or (t ∷ ts) (cond b (suc (earlier due ts)) 0) d).due
    by true e k rest = rest (omega (arith, k))
    by false e k rest = not_less_tells t.due due e

-- 2. The last node by a tick
none_by : (due : ℕ) (s : ℕ) (ts : List Tick) → AllByRecursion (λ later. due < later.due) ts → last_by due s ts ≡ s
none_by due s [] h = refl
none_by due s (t ∷ ts) h = rw (not_at_most t.due due h.0) refl

found_last : (due : ℕ) (s : ℕ) (ts : List Tick) (d : Tick) → AreAscending ts → earlier due ts < length ts →
    (slice_index_or ts (earlier due ts) d).due ≡ due → (slice_index_or ts (earlier due ts) d).last.index ≡ last_by due s ts
found_last due s [] d up h e = absurd (omega (arith, h))
found_last due s (t ∷ ts) d up h e = by (nat_lt t.due due) refl h e (found_last due t.last.index ts d up.1)
  where
    by : (b : Bool) → nat_lt t.due due ≡ b → cond b (suc (earlier due ts)) 0 < suc (length ts) →
        (slice_index_or (t ∷ ts) (cond b (suc (earlier due ts)) 0) d).due ≡ due
        → (earlier due ts < length ts → (slice_index_or ts (earlier due ts) d).due ≡ due →
        (slice_index_or ts (earlier due ts) d).last.index ≡ last_by due t.last.index ts)
        → (slice_index_or (t ∷ ts) (cond b (suc (earlier due ts)) 0) d).last.index ≡ cond (nat_le t.due due) (last_by due t.last.index ts) s
    by true l k q rest = rw (at_most_is t.due due (omega (arith, less_tells t.due due l))) (rest (omega (arith, k)) q)
    by false l k q rest =
        rw (at_most_is t.due due (omega (arith, q)))
        (sym (none_by due t.last.index ts (subst (λ n. AllByRecursion (λ (later : Tick). n < later.due) ts) q up.0)))

first_last : (due : ℕ) (s : ℕ) (ts : List Tick) (d : Tick) → earlier due ts ≡ 0 → (0 < length ts → due < (slice_index_or ts 0 d).due) → s ≡ last_by due s ts
first_last due s [] d e h = refl
first_last due s (t ∷ ts) d e h = rw (not_at_most t.due due (h (omega arith))) refl

missing_last : (due : ℕ) (s : ℕ) (ts : List Tick) (d : Tick) → (earlier due ts < length ts → due < (slice_index_or ts (earlier due ts) d).due) →
    0 < earlier due ts → (slice_index_or ts (earlier due ts - 1) d).last.index ≡ last_by due s ts
missing_last due s [] d h pos = absurd (omega (arith, pos))
missing_last due s (t ∷ ts) d h pos = by (nat_lt t.due due) refl h pos (missing_last due t.last.index ts d)
  where
    by : (b : Bool) → nat_lt t.due due ≡ b →
        (cond b (suc (earlier due ts)) 0 < suc (length ts) → due < (slice_index_or (t ∷ ts) (cond b (suc (earlier due ts)) 0) d).due) →
        0 < cond b (suc (earlier due ts)) 0
        → ((earlier due ts < length ts → due < (slice_index_or ts (earlier due ts) d).due) → 0 < earlier due ts →
        (slice_index_or ts (earlier due ts - 1) d).last.index ≡ last_by due t.last.index ts)
        → (slice_index_or (t ∷ ts) (cond b (suc (earlier due ts)) 0 - 1) d).last.index ≡ cond (nat_le t.due due) (last_by due t.last.index ts) s
    by true l k q rest = rw (at_most_is t.due due (omega (arith, less_tells t.due due l))) (at_place (earlier due ts) refl)
      where
        at_place : (n : ℕ) → earlier due ts ≡ n → (slice_index_or (t ∷ ts) (suc (earlier due ts) - 1) d).last.index ≡ last_by due t.last.index ts
        at_place zero e =
            let here : suc (earlier due ts) - 1 ≡ 0 = omega (arith, e) in
            rw here (first_last due t.last.index ts d e (λ p. subst (λ n. due < (slice_index_or ts n d).due) e (k (omega (arith, p, e)))))
        at_place (suc n) e =
            let here : suc (earlier due ts) - 1 ≡ suc (earlier due ts - 1) = omega (arith, e) in
            rw here (rest (λ p. k (omega (arith, p))) (omega (arith, e)))
    by false l k q rest = absurd (omega (arith, q))

-- 3. A change at the place
found_put : (due : ℕ) (p : ℕ) (ts : List Tick) (d : Tick) → earlier due ts < length ts →
    (slice_index_or ts (earlier due ts) d).due ≡ due → slice_set ts (earlier due ts) (tick_at due p) ≡ put_tick due p ts
found_put due p [] d h e = absurd (omega (arith, h))
found_put due p (t ∷ ts) d h e = by (nat_lt t.due due) refl h e (found_put due p ts d)
  where
    by : (b : Bool) → nat_lt t.due due ≡ b → cond b (suc (earlier due ts)) 0 < suc (length ts) →
        (slice_index_or (t ∷ ts) (cond b (suc (earlier due ts)) 0) d).due ≡ due
        → (earlier due ts < length ts → (slice_index_or ts (earlier due ts) d).due ≡ due → slice_set ts (earlier due ts) (tick_at due p) ≡ put_tick due p ts)
        → slice_set (t ∷ ts) (cond b (suc (earlier due ts)) 0) (tick_at due p) ≡ cond b (t ∷ put_tick due p ts)
        (tick_at due p ∷ cond (t.due == due) ts (t ∷ ts))
    by true l k q rest = ap (λ r. t ∷ r) (rest (omega (arith, k)) q)
    by false l k q rest = rw (test_same t.due due q) refl

missing_put : (due : ℕ) (p : ℕ) (ts : List Tick) (d : Tick) → (earlier due ts < length ts → due < (slice_index_or ts (earlier due ts) d).due) →
    insert ts (earlier due ts) (tick_at due p) ≡ put_tick due p ts
missing_put due p [] d h = refl
missing_put due p (t ∷ ts) d h = by (nat_lt t.due due) refl h (missing_put due p ts d)
  where
    by : (b : Bool) → nat_lt t.due due ≡ b →
        (cond b (suc (earlier due ts)) 0 < suc (length ts) → due < (slice_index_or (t ∷ ts) (cond b (suc (earlier due ts)) 0) d).due)
        → ((earlier due ts < length ts → due < (slice_index_or ts (earlier due ts) d).due) → insert ts (earlier due ts) (tick_at due p) ≡ put_tick due p ts)
        → insert (t ∷ ts) (cond b (suc (earlier due ts)) 0) (tick_at due p) ≡ cond b (t ∷ put_tick due p ts) (tick_at due p ∷ cond (t.due == due) ts (t ∷ ts))
    by true l k rest = ap (λ r. t ∷ r) (rest (λ b. k (omega (arith, b))))
    by false l k rest = let later : due < t.due = k (omega arith) in rw (other_test t.due due (λ e. omega (arith, later, e))) refl

found_set : (due : ℕ) (p : ℕ) (ts : List Tick) (d : Tick) → earlier due ts < length ts →
    (slice_index_or ts (earlier due ts) d).due ≡ due → slice_set ts (earlier due ts) (tick_at due p) ≡ set_tick due p ts
found_set due p [] d h e = absurd (omega (arith, h))
found_set due p (t ∷ ts) d h e = by (nat_lt t.due due) refl h e (found_set due p ts d)
  where
    by : (b : Bool) → nat_lt t.due due ≡ b → cond b (suc (earlier due ts)) 0 < suc (length ts) →
        (slice_index_or (t ∷ ts) (cond b (suc (earlier due ts)) 0) d).due ≡ due
        → (earlier due ts < length ts → (slice_index_or ts (earlier due ts) d).due ≡ due → slice_set ts (earlier due ts) (tick_at due p) ≡ set_tick due p ts)
        → slice_set (t ∷ ts) (cond b (suc (earlier due ts)) 0) (tick_at due p) ≡ cond (t.due == due) (tick_at due p ∷ ts) (t ∷ set_tick due p ts)
    by true l k q rest = let before : t.due < due = less_tells t.due due l in
        rw (other_test t.due due (λ e. omega (arith, before, e))) (ap (λ r. t ∷ r) (rest (omega (arith, k)) q))
    by false l k q rest = rw (test_same t.due due q) refl

found_drop : (due : ℕ) (ts : List Tick) (d : Tick) → earlier due ts < length ts →
    (slice_index_or ts (earlier due ts) d).due ≡ due → remove ts (earlier due ts) ≡ drop_tick due ts
found_drop due [] d h e = absurd (omega (arith, h))
found_drop due (t ∷ ts) d h e = by (nat_lt t.due due) refl h e (found_drop due ts d)
  where
    by : (b : Bool) → nat_lt t.due due ≡ b → cond b (suc (earlier due ts)) 0 < suc (length ts) →
        (slice_index_or (t ∷ ts) (cond b (suc (earlier due ts)) 0) d).due ≡ due
        → (earlier due ts < length ts → (slice_index_or ts (earlier due ts) d).due ≡ due → remove ts (earlier due ts) ≡ drop_tick due ts)
        → remove (t ∷ ts) (cond b (suc (earlier due ts)) 0) ≡ cond (t.due == due) ts (t ∷ drop_tick due ts)
    by true l k q rest = let before : t.due < due = less_tells t.due due l in
        rw (other_test t.due due (λ e. omega (arith, before, e))) (ap (λ r. t ∷ r) (rest (omega (arith, k)) q))
    by false l k q rest = rw (test_same t.due due q) refl

-- where it isn't there, nothing is changed
later_set : (due : ℕ) (p : ℕ) (ts : List Tick) → AllByRecursion (λ later. due < later.due) ts → set_tick due p ts ≡ ts
later_set due p [] h = refl
later_set due p (t ∷ ts) h = let after : due < t.due = h.0 in
    rw (other_test t.due due (λ e. omega (arith, after, e))) (ap (λ r. t ∷ r) (later_set due p ts h.1))

later_drop : (due : ℕ) (ts : List Tick) → AllByRecursion (λ later. due < later.due) ts → drop_tick due ts ≡ ts
later_drop due [] h = refl
later_drop due (t ∷ ts) h = let after : due < t.due = h.0 in rw (other_test t.due due (λ e. omega (arith, after, e))) (ap (λ r. t ∷ r) (later_drop due ts h.1))

further : (m n : ℕ) (ts : List Tick) → m < n → AllByRecursion (λ later. n < later.due) ts → AllByRecursion (λ later. m < later.due) ts
further m n [] l h = tt
further m n (t ∷ ts) l h = (omega (arith, l, h.0), further m n ts l h.1)

missing_set : (due : ℕ) (p : ℕ) (ts : List Tick) (d : Tick) → AreAscending ts →
    (earlier due ts < length ts → due < (slice_index_or ts (earlier due ts) d).due) → ts ≡ set_tick due p ts
missing_set due p [] d up h = refl
missing_set due p (t ∷ ts) d up h = by (nat_lt t.due due) refl h (missing_set due p ts d up.1)
  where
    by : (b : Bool) → nat_lt t.due due ≡ b →
        (cond b (suc (earlier due ts)) 0 < suc (length ts) → due < (slice_index_or (t ∷ ts) (cond b (suc (earlier due ts)) 0) d).due)
        → ((earlier due ts < length ts → due < (slice_index_or ts (earlier due ts) d).due) → ts ≡ set_tick due p ts)
        → t ∷ ts ≡ cond (t.due == due) (tick_at due p ∷ ts) (t ∷ set_tick due p ts)
    by true l k rest = let before : t.due < due = less_tells t.due due l in
        rw (other_test t.due due (λ e. omega (arith, before, e))) (ap (λ r. t ∷ r) (rest (λ b. k (omega (arith, b)))))
    by false l k rest = let after : due < t.due = k (omega arith) in
        rw (other_test t.due due (λ e. omega (arith, after, e))) (ap (λ r. t ∷ r) (sym (later_set due p ts (further due t.due ts after up.0))))

missing_drop : (due : ℕ) (ts : List Tick) (d : Tick) → AreAscending ts → (earlier due ts < length ts → due < (slice_index_or ts (earlier due ts) d).due) →
    ts ≡ drop_tick due ts
missing_drop due [] d up h = refl
missing_drop due (t ∷ ts) d up h = by (nat_lt t.due due) refl h (missing_drop due ts d up.1)
  where
    by : (b : Bool) → nat_lt t.due due ≡ b →
        (cond b (suc (earlier due ts)) 0 < suc (length ts) → due < (slice_index_or (t ∷ ts) (cond b (suc (earlier due ts)) 0) d).due)
        → ((earlier due ts < length ts → due < (slice_index_or ts (earlier due ts) d).due) → ts ≡ drop_tick due ts)
        → t ∷ ts ≡ cond (t.due == due) ts (t ∷ drop_tick due ts)
    by true l k rest = let before : t.due < due = less_tells t.due due l in
        rw (other_test t.due due (λ e. omega (arith, before, e))) (ap (λ r. t ∷ r) (rest (λ b. k (omega (arith, b)))))
    by false l k rest = let after : due < t.due = k (omega arith) in
        rw (other_test t.due due (λ e. omega (arith, after, e))) (ap (λ r. t ∷ r) (sym (later_drop due ts (further due t.due ts after up.0))))

-- 4. As the calls come upon them
module _ (due : ℕ) (ts : List Tick) (i : ℕ) (d : Tick) where
  module _ (found : IsFound due ts i) where
    here : (P : ℕ → Type 0) → P (earlier due ts) → P i
    here P h = subst P (sym found.place) h

    there : earlier due ts < length ts
    there = subst (λ n. n < length ts) found.place found.there

    equal : (slice_index_or ts (earlier due ts) d).due ≡ due
    equal = subst (λ n. (slice_index_or ts n d).due ≡ due) found.place (found.same d)

    pub last_found : (s : ℕ) → AreAscending ts → (slice_index_or ts i d).last.index ≡ last_by due s ts
    last_found s up = here (λ n. (slice_index_or ts n d).last.index ≡ last_by due s ts) (found_last due s ts d up there equal)

    pub put_found : (p : ℕ) → slice_set ts i (tick_at due p) ≡ put_tick due p ts
    put_found p = here (λ n. slice_set ts n (tick_at due p) ≡ put_tick due p ts) (found_put due p ts d there equal)

    pub set_found : (p : ℕ) → slice_set ts i (tick_at due p) ≡ set_tick due p ts
    set_found p = here (λ n. slice_set ts n (tick_at due p) ≡ set_tick due p ts) (found_set due p ts d there equal)

    pub drop_found : remove ts i ≡ drop_tick due ts
    drop_found = here (λ n. remove ts n ≡ drop_tick due ts) (found_drop due ts d there equal)

  module _ (missing : IsMissing due ts i) where
    at : (P : ℕ → Type 0) → P (earlier due ts) → P i
    at P h = subst P (sym missing.place) h

    later : earlier due ts < length ts → due < (slice_index_or ts (earlier due ts) d).due
    later = subst (λ n. n < length ts → due < (slice_index_or ts n d).due) missing.place (missing.later d)

    pub last_first : (s : ℕ) → i ≡ 0 → s ≡ last_by due s ts
    last_first s e = first_last due s ts d (sym missing.place ∙ e) (subst (λ n. n < length ts → due < (slice_index_or ts n d).due) e (missing.later d))

    pub last_missing : (s : ℕ) → 0 < i → (slice_index_or ts (i - 1) d).last.index ≡ last_by due s ts
    last_missing s pos =
        at (λ n. (slice_index_or ts (n - 1) d).last.index ≡ last_by due s ts) (missing_last due s ts d later (subst (λ n. 0 < n) missing.place pos))

    pub put_missing : (p : ℕ) → insert ts i (tick_at due p) ≡ put_tick due p ts
    put_missing p = at (λ n. insert ts n (tick_at due p) ≡ put_tick due p ts) (missing_put due p ts d later)

    pub set_missing : (p : ℕ) → AreAscending ts → ts ≡ set_tick due p ts
    set_missing p up = missing_set due p ts d up later

    pub drop_missing : AreAscending ts → ts ≡ drop_tick due ts
    drop_missing up = missing_drop due ts d up later

  -- what is not before, and not at it, is later
  pub missing_of : i ≡ earlier due ts → i < length ts → ((slice_index_or ts i d).due ≡ due → ⊥) → IsMissing due ts i
  missing_of e below other = record {
    within = omega (arith, below);
    place = e;
    later = λ k h. subst (λ (t : Tick). due < t.due) (any_default ts i d k below) (strictly upto);
  }
    where
      upto : due ≤ (slice_index_or ts i d).due
      upto = subst (λ n. due ≤ (slice_index_or ts n d).due) (sym e) (not_earlier due ts d (subst (λ n. n < length ts) e below))

      strictly : due ≤ (slice_index_or ts i d).due → due < (slice_index_or ts i d).due
      strictly h = by (nat_lt due (slice_index_or ts i d).due) refl
        where
          by : (b : Bool) → nat_lt due (slice_index_or ts i d).due ≡ b → due < (slice_index_or ts i d).due
          by true t = less_tells due (slice_index_or ts i d).due t
          by false f = absurd (other (omega (arith, h, not_less_tells due (slice_index_or ts i d).due f)))
