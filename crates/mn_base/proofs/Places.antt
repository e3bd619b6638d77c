-- What a search for a place tells of a list, and the changes that keep it in order.
use Rattle.std.proofs.Common.{ℕ, zero, suc, ◌≡◌, ◌<◌, ◌≤◌, Bool, true, false, cond, List, [], ◌∷◌, ◌++◌, length, get_or, take, drop, refl, ap, sym, ◌∙◌}
use Rattle.std.proofs.Common.{arith, filter, subst, inl, inr, ◌⊎◌, Some, None}
use Rattle.std.specs.Prelude.{◌||◌, not, fold, if◌then◌else◌}
use Rattle.std.proofs.lemmas.List.Elements.{filter-append}
use Rattle.std.specs.List.{AllByRecursion, insert, list_any}
use Rattle.mn_base.proofs.Bools.{no, none_below, two_ways}
use Rattle.mn_base.specs.Ordered.{with_one, without_one, has_one, one_at, Ascends, IsOrder, IsPlaceFor, StandsAt, StandsBehind}

-- 1. All pass, or none

pub filter_all : {A : Type 0} (p : A → Bool) (xs : List A) → ((k : ℕ) (d : A) → k < length xs → p (get_or xs k d) ≡ true) → filter p xs ≡ xs
filter_all p [] h = refl
filter_all p (x ∷ xs) h =
    ap (λ b. cond b (x ∷ filter p xs) (filter p xs)) (h 0 x (omega arith)) ∙ ap (λ ys. x ∷ ys) (filter_all p xs (λ k d lt. h (suc k) d (omega (arith, lt))))

pub filter_none : {A : Type 0} (p : A → Bool) (xs : List A) → ((k : ℕ) (d : A) → k < length xs → p (get_or xs k d) ≡ false) → filter p xs ≡ []
filter_none p [] h = refl
filter_none p (x ∷ xs) h = ap (λ b. cond b (x ∷ filter p xs) (filter p xs)) (h 0 x (omega arith)) ∙ filter_none p xs (λ k d lt. h (suc k) d (omega (arith, lt)))

-- the first so many pass, and no other
pub filter_front : {A : Type 0} (p : A → Bool) (xs : List A) (at : ℕ) → at ≤ length xs → ((k : ℕ) (d : A) → k < at → p (get_or xs k d) ≡ true) →
    ((k : ℕ) (d : A) → at ≤ k → k < length xs → p (get_or xs k d) ≡ false) → filter p xs ≡ take at xs
filter_front p xs zero h pass never = filter_none p xs (λ k d lt. never k d (omega arith) lt)
filter_front p [] (suc at) h pass never = absurd (none_below at (omega (arith, h)))
filter_front p (x ∷ xs) (suc at) h pass never =
    ap (λ b. cond b (x ∷ filter p xs) (filter p xs)) (pass 0 x (omega arith))
    ∙ ap (λ ys. x ∷ ys)
    (filter_front p xs at (omega (arith, h)) (λ k d lt. pass (suc k) d (omega (arith, lt)))
    (λ k d le lt. never (suc k) d (omega (arith, le)) (omega (arith, lt))))

-- the first so many don't pass, and each other does
pub filter_back : {A : Type 0} (p : A → Bool) (xs : List A) (at : ℕ) → at ≤ length xs → ((k : ℕ) (d : A) → k < at → p (get_or xs k d) ≡ false) →
    ((k : ℕ) (d : A) → at ≤ k → k < length xs → p (get_or xs k d) ≡ true) → filter p xs ≡ drop at xs
filter_back p xs zero h never pass = filter_all p xs (λ k d lt. pass k d (omega arith) lt)
filter_back p [] (suc at) h never pass = absurd (none_below at (omega (arith, h)))
filter_back p (x ∷ xs) (suc at) h never pass =
    ap (λ b. cond b (x ∷ filter p xs) (filter p xs)) (never 0 x (omega arith))
    ∙ filter_back p xs at (omega (arith, h)) (λ k d lt. never (suc k) d (omega (arith, lt)))
    (λ k d le lt. pass (suc k) d (omega (arith, le)) (omega (arith, lt)))

-- all pass but the one at this place
pub filter_but : {A : Type 0} (p : A → Bool) (xs : List A) (at : ℕ) → at < length xs → ((k : ℕ) (d : A) → k < at → p (get_or xs k d) ≡ true) →
    ((d : A) → p (get_or xs at d) ≡ false) →
    ((k : ℕ) (d : A) → suc at ≤ k → k < length xs → p (get_or xs k d) ≡ true) → filter p xs ≡ take at xs ++ drop (suc at) xs
filter_but p [] at h pass fail more = absurd (none_below at h)
filter_but p (x ∷ xs) zero h pass fail more =
    ap (λ b. cond b (x ∷ filter p xs) (filter p xs)) (fail x) ∙ filter_all p xs (λ k d lt. more (suc k) d (omega arith) (omega (arith, lt)))
filter_but p (x ∷ xs) (suc at) h pass fail more =
    ap (λ b. cond b (x ∷ filter p xs) (filter p xs)) (pass 0 x (omega arith))
    ∙ ap (λ ys. x ∷ ys)
    (filter_but p xs at (omega (arith, h)) (λ k d lt. pass (suc k) d (omega (arith, lt))) fail
    (λ k d le lt. more (suc k) d (omega (arith, le)) (omega (arith, lt))))

pub any_at : {A : Type 0} (p : A → Bool) (xs : List A) (at : ℕ) → at < length xs → ((d : A) → p (get_or xs at d) ≡ true) → list_any p xs ≡ true
any_at p [] at h e = absurd (none_below at h)
any_at p (x ∷ xs) zero h e = ap (λ b. b || list_any p xs) (e x)
any_at p (x ∷ xs) (suc at) h e = ap (λ b. p x || b) (any_at p xs at (omega (arith, h)) e) ∙ or_true (p x)
  where
    or_true : (b : Bool) → (b || true) ≡ true
    or_true true = refl
    or_true false = refl

pub any_none : {A : Type 0} (p : A → Bool) (xs : List A) → ((k : ℕ) (d : A) → k < length xs → p (get_or xs k d) ≡ false) → list_any p xs ≡ false
any_none p [] h = refl
any_none p (x ∷ xs) h = ap (λ b. b || list_any p xs) (h 0 x (omega arith)) ∙ any_none p xs (λ k d lt. h (suc k) d (omega (arith, lt)))

pub none_there : {A : Type 0} (before : A → A → Bool) (x : A) (xs : List A) →
    ((k : ℕ) (d : A) → k < length xs → (before (get_or xs k d) x || before x (get_or xs k d)) ≡ true) → one_at before x xs ≡ None
none_there before x [] h = refl
none_there before x (y ∷ ys) h =
    ap (λ b. if b then one_at before x ys else Some y) (h 0 y (omega arith)) ∙ none_there before x ys (λ k d lt. h (suc k) d (omega (arith, lt)))

pub some_there : {A : Type 0} (before : A → A → Bool) (x : A) (xs : List A) (at : ℕ) (e : A) → at < length xs →
    ((k : ℕ) (d : A) → k < at → (before (get_or xs k d) x || before x (get_or xs k d)) ≡ true) →
    ((d : A) → (before (get_or xs at d) x || before x (get_or xs at d)) ≡ false) → one_at before x xs ≡ Some (get_or xs at e)
some_there before x [] at e h apart same = absurd (none_below at h)
some_there before x (y ∷ ys) zero e h apart same = ap (λ b. if b then one_at before x ys else Some y) (same y)
some_there before x (y ∷ ys) (suc at) e h apart same =
    ap (λ b. if b then one_at before x ys else Some y) (apart 0 y (omega arith))
    ∙ some_there before x ys at e (omega (arith, h)) (λ k d lt. apart (suc k) d (omega (arith, lt))) same

-- 2. The changes keep the order

pub all_filter : {A : Type 0} (P : A → Type 0) (p : A → Bool) (xs : List A) → AllByRecursion P xs → AllByRecursion P (filter p xs)
all_filter P p [] h = tt
all_filter P p (x ∷ xs) h = split (p x) (all_filter P p xs h.1)
  where
    split : (b : Bool) → AllByRecursion P (filter p xs) → AllByRecursion P (cond b (x ∷ filter p xs) (filter p xs))
    split true more = (h.0, more)
    split false more = more

pub all_passed : {A : Type 0} (p : A → Bool) (xs : List A) → AllByRecursion (λ x. p x ≡ true) (filter p xs)
all_passed p [] = tt
all_passed p (x ∷ xs) = split (p x) refl (all_passed p xs)
  where
    split : (b : Bool) → p x ≡ b → AllByRecursion (λ y. p y ≡ true) (filter p xs) → AllByRecursion (λ y. p y ≡ true) (cond b (x ∷ filter p xs) (filter p xs))
    split true e more = (e, more)
    split false e more = more

pub all_append : {A : Type 0} (P : A → Type 0) (xs ys : List A) → AllByRecursion P xs → AllByRecursion P ys → AllByRecursion P (xs ++ ys)
all_append P [] ys h g = g
all_append P (x ∷ xs) ys h g = (h.0, all_append P xs ys h.1 g)

pub all_turned : {A : Type 0} (P Q : A → Type 0) → ((x : A) → P x → Q x) → (xs : List A) → AllByRecursion P xs → AllByRecursion Q xs
all_turned P Q f [] h = tt
all_turned P Q f (x ∷ xs) h = (f x h.0, all_turned P Q f xs h.1)

pub ascends_filter : {A : Type 0} (before : A → A → Bool) (p : A → Bool) (xs : List A) → Ascends before xs → Ascends before (filter p xs)
ascends_filter before p [] h = tt
ascends_filter before p (x ∷ xs) h = split (p x) (ascends_filter before p xs h.1)
  where
    split : (b : Bool) → Ascends before (filter p xs) → Ascends before (cond b (x ∷ filter p xs) (filter p xs))
    split true more = (all_filter (λ y. before x y ≡ true) p xs h.0, more)
    split false more = more

-- two lists in order, each of the first before each of the second
pub ascends_append : {A : Type 0} (before : A → A → Bool) (xs ys : List A) → Ascends before xs → Ascends before ys →
    AllByRecursion (λ x. AllByRecursion (λ y. before x y ≡ true) ys) xs → Ascends before (xs ++ ys)
ascends_append before [] ys h g across = g
ascends_append before (x ∷ xs) ys h g across = (all_append (λ y. before x y ≡ true) xs ys h.0 across.0, ascends_append before xs ys h.1 g across.1)

pub ascends_with : {A : Type 0} (before : A → A → Bool) (x : A) (xs : List A) → IsOrder before → Ascends before xs → Ascends before (with_one before x xs)
ascends_with before x xs order h =
    ascends_append before (filter (λ y. before y x) xs) (x ∷ filter (λ y. before x y) xs) (ascends_filter before (λ y. before y x) xs h)
    (all_passed (λ y. before x y) xs, ascends_filter before (λ y. before x y) xs h)
    (all_turned (λ y. before y x ≡ true) (λ y. AllByRecursion (λ z. before y z ≡ true) (x ∷ filter (λ z. before x z) xs))
    (λ y e. (
      e,
      all_turned (λ z. before x z ≡ true) (λ z. before y z ≡ true) (λ z f. order.onward y x z e f) (filter (λ z. before x z) xs)
          (all_passed (λ z. before x z) xs),
    ))
    (filter (λ y. before y x) xs) (all_passed (λ y. before y x) xs))

pub ascends_without : {A : Type 0} (before : A → A → Bool) (x : A) (xs : List A) → Ascends before xs → Ascends before (without_one before x xs)
ascends_without before x xs h = ascends_filter before (λ y. before y x || before x y) xs h

-- 3. What a search finds

pub all_at : {A : Type 0} (P : A → Type 0) (xs : List A) → AllByRecursion P xs → (k : ℕ) (d : A) → k < length xs → P (get_or xs k d)
all_at P [] h k d lt = absurd (none_below k lt)
all_at P (x ∷ xs) h zero d lt = h.0
all_at P (x ∷ xs) h (suc k) d lt = all_at P xs h.1 k d (omega (arith, lt))

pub ascends_at : {A : Type 0} (before : A → A → Bool) (xs : List A) → Ascends before xs →
    (i j : ℕ) (d e : A) → i < j → j < length xs → before (get_or xs i d) (get_or xs j e) ≡ true
ascends_at before [] h i j d e lt there = absurd (none_below j there)
ascends_at before (x ∷ xs) h i zero d e lt there = absurd (none_below i lt)
ascends_at before (x ∷ xs) h zero (suc j) d e lt there = all_at (λ y. before x y ≡ true) xs h.0 j e (omega (arith, there))
ascends_at before (x ∷ xs) h (suc i) (suc j) d e lt there = ascends_at before xs h.1 i j d e (omega (arith, lt)) (omega (arith, there))

module _ {A : Type 0} (before : A → A → Bool) (order : IsOrder before) (xs : List A) (up : Ascends before xs) (x : A) where
  -- those before a place that comes before x
  pub earlier : (i j : ℕ) (d e : A) → i ≤ j → j < length xs → d ≡ e → before (get_or xs j e) x ≡ true → before (get_or xs i d) x ≡ true
  earlier i j d e le there same h = elim (cases i j le) [
    | inl lt ↦ order.onward (get_or xs i d) (get_or xs j e) x (ascends_at before xs up i j d e lt there) h
    | inr q ↦ subst (λ k. before (get_or xs k d) x ≡ true) (sym q) (subst (λ f. before (get_or xs j f) x ≡ true) (sym same) h)
  ]
    where
      cases : (i j : ℕ) → i ≤ j → (i < j) ⊎ (i ≡ j)
      cases i j le = grind (arith, le)

  -- those behind a place that doesn't come before x
  pub later : (i j : ℕ) (d : A) → i ≤ j → j < length xs → before (get_or xs i d) x ≡ false → before (get_or xs j d) x ≡ false
  later i j d le there h = elim (two_ways (before (get_or xs j d) x)) [
    | inl g ↦ absurd (no (sym h ∙ earlier i j d d le there refl g))
    | inr g ↦ g
  ]

  pub not_back : (y : A) → before y x ≡ true → before x y ≡ false
  not_back y h = elim (two_ways (before x y)) [ inl g ↦ absurd (order.one_way x y g h) | inr g ↦ g ]

  module _ (at : ℕ) (place : IsPlaceFor before xs x at) where
    front : filter (λ y. before y x) xs ≡ take at xs
    front = filter_front (λ y. before y x) xs at place.within place.below place.above

    never_back : (k : ℕ) (d : A) → k < at → before x (get_or xs k d) ≡ false
    never_back k d lt = not_back (get_or xs k d) (place.below k d lt)

    -- nothing stands in its place
    pub with_gap : ((k : ℕ) (d : A) → at ≤ k → k < length xs → before x (get_or xs k d) ≡ true) → with_one before x xs ≡ take at xs ++ x ∷ drop at xs
    with_gap h =
        ap (λ ys. ys ++ x ∷ filter (λ y. before x y) xs) front
        ∙ ap (λ ys. take at xs ++ x ∷ ys) (filter_back (λ y. before x y) xs at place.within never_back h)

    -- nothing stands in its place, and those from there on come after it
    behind_all : StandsBehind before xs x at → (k : ℕ) (d : A) → at ≤ k → k < length xs → before x (get_or xs k d) ≡ true
    behind_all h k d le lt = elim (cases k le) [
      | inl less ↦ order.onward x (get_or xs at d) (get_or xs k d) (h d (omega (arith, le, lt))) (ascends_at before xs up at k d d less lt)
      | inr q ↦ subst (λ j. before x (get_or xs j d) ≡ true) q (h d (omega (arith, q, lt)))
    ]
      where
        cases : (k : ℕ) → at ≤ k → (at < k) ⊎ (at ≡ k)
        cases k le = grind (arith, le)

    pub with_absent : StandsBehind before xs x at → with_one before x xs ≡ insert xs at x
    with_absent h = with_gap (behind_all h)

    module _ (there : at < length xs) (same : (d : A) → before x (get_or xs at d) ≡ false) where
      equal : (d : A) → (before x (get_or xs at d) || before (get_or xs at d) x) ≡ false
      equal d = ap (λ b. b || before (get_or xs at d) x) (same d) ∙ place.above at d (omega arith) there

      behind : (k : ℕ) (d : A) → suc at ≤ k → k < length xs → before x (get_or xs k d) ≡ true
      behind k d le lt = order.alike x (get_or xs at d) (get_or xs k d) (equal d) ∙ ascends_at before xs up at k d d (omega (arith, le)) lt

      not_before : (k : ℕ) (d : A) → k < suc at → before x (get_or xs k d) ≡ false
      not_before k d le = elim (cases k le) [
        | inl less ↦ never_back k d less
        | inr q ↦ subst (λ j. before x (get_or xs j d) ≡ false) (sym q) (same d)
      ]
        where
          cases : (k : ℕ) → k < suc at → (k < at) ⊎ (k ≡ at)
          cases k le = grind (arith, le)

      -- another takes the place
      pub with_held : with_one before x xs ≡ take at xs ++ x ∷ drop (suc at) xs
      with_held =
          ap (λ ys. ys ++ x ∷ filter (λ y. before x y) xs) front
          ∙ ap (λ ys. take at xs ++ x ∷ ys) (filter_back (λ y. before x y) xs (suc at) (omega (arith, there)) not_before behind)

      -- it goes
      pub without_held : without_one before x xs ≡ take at xs ++ drop (suc at) xs
      without_held = filter_but (λ y. before y x || before x y) xs at there
          (λ k d lt. ap (λ b. b || before x (get_or xs k d)) (place.below k d lt))
          (λ d. ap (λ b. b || before x (get_or xs at d)) (place.above at d (omega arith) there) ∙ same d)
          (λ k d le lt. ap (λ b. b || before x (get_or xs k d)) (place.above k d (omega (arith, le)) lt) ∙ behind k d le lt)

    every_other : StandsBehind before xs x at → (k : ℕ) (d : A) → k < length xs → (before (get_or xs k d) x || before x (get_or xs k d)) ≡ true
    every_other h k d lt = elim (cases k) [
      | inl less ↦ ap (λ b. b || before x (get_or xs k d)) (place.below k d less)
      | inr le ↦ ap (λ b. b || before x (get_or xs k d)) (place.above k d le lt) ∙ behind_all h k d le lt
    ]
      where
        cases : (k : ℕ) → (k < at) ⊎ (at ≤ k)
        cases k = grind arith

    -- there is none to go
    pub without_absent : StandsBehind before xs x at → without_one before x xs ≡ xs
    without_absent h = filter_all (λ y. before y x || before x y) xs (every_other h)

    pub has_absent : StandsBehind before xs x at → has_one before x xs ≡ false
    has_absent h = any_none (λ y. not (before y x || before x y)) xs (λ k d lt. ap not (every_other h k d lt))

    pub has_held : StandsAt before xs x at → has_one before x xs ≡ true
    has_held h =
        any_at (λ y. not (before y x || before x y)) xs at h.there
        (λ d. ap (λ b. not (b || before x (get_or xs at d))) (place.above at d (omega arith) h.there) ∙ ap not (h.same d))

    pub one_absent : StandsBehind before xs x at → one_at before x xs ≡ None
    one_absent h = none_there before x xs (every_other h)

    pub one_held : (e : A) → StandsAt before xs x at → one_at before x xs ≡ Some (get_or xs at e)
    one_held e h =
        some_there before x xs at e h.there (λ k d lt. ap (λ b. b || before x (get_or xs k d)) (place.below k d lt))
        (λ d. ap (λ b. b || before x (get_or xs at d)) (place.above at d (omega arith) h.there) ∙ h.same d)

    -- by the one that is found at the place
    pub has_at : (b : Bool) → at < length xs → ((d : A) → before x (get_or xs at d) ≡ b) → not b ≡ has_one before x xs
    has_at true there h = sym (has_absent (λ d lt. h d))
    has_at false there h = sym (has_held (record { there = there; same = h }))

    pub has_none : length xs ≤ at → has_one before x xs ≡ false
    has_none h = has_absent (λ d lt. absurd (past lt))
      where
        past : at < length xs → ⊥
        past lt = omega (arith, h, lt)

-- 4. What is put in order, one after another

pub fold_ascends : {A : Type 0} (before : A → A → Bool) (ks zs : List A) → IsOrder before → Ascends before ks →
    Ascends before (fold (λ kept z. with_one before z kept) ks zs)
fold_ascends before ks [] order h = h
fold_ascends before ks (z ∷ zs) order h = fold_ascends before (with_one before z ks) zs order (ascends_with before z ks order h)

pub filter_twice : {A : Type 0} (p q : A → Bool) (xs : List A) → filter p (filter q xs) ≡ filter q (filter p xs)
filter_twice p q [] = refl
filter_twice p q (x ∷ xs) = split (p x) (q x) refl refl (filter_twice p q xs)
  where
    split : (a b : Bool) → p x ≡ a → q x ≡ b → filter p (filter q xs) ≡ filter q (filter p xs) →
        filter p (cond b (x ∷ filter q xs) (filter q xs)) ≡ filter q (cond a (x ∷ filter p xs) (filter p xs))
    split true true e f h =
        ap (λ b. cond b (x ∷ filter p (filter q xs)) (filter p (filter q xs))) e ∙ ap (λ ys. x ∷ ys) h
        ∙ sym (ap (λ b. cond b (x ∷ filter q (filter p xs)) (filter q (filter p xs))) f)
    split true false e f h = h ∙ sym (ap (λ b. cond b (x ∷ filter q (filter p xs)) (filter q (filter p xs))) f)
    split false true e f h = ap (λ b. cond b (x ∷ filter p (filter q xs)) (filter p (filter q xs))) e ∙ h
    split false false e f h = h

filter_of : {A : Type 0} (p : A → Bool) (xs : List A) → AllByRecursion (λ x. p x ≡ true) xs → filter p xs ≡ xs
filter_of p [] h = refl
filter_of p (x ∷ xs) h = ap (λ b. cond b (x ∷ filter p xs) (filter p xs)) h.0 ∙ ap (λ ys. x ∷ ys) (filter_of p xs h.1)

filter_off : {A : Type 0} (p : A → Bool) (xs : List A) → AllByRecursion (λ x. p x ≡ false) xs → filter p xs ≡ []
filter_off p [] h = refl
filter_off p (x ∷ xs) h = ap (λ b. cond b (x ∷ filter p xs) (filter p xs)) h.0 ∙ filter_off p xs h.1

module _ {A : Type 0} (before : A → A → Bool) (order : IsOrder before) (x : A) where
  apart_from : A → Bool
  apart_from z = before z x || before x z

  behind_is : (z : A) → before x z ≡ true → before z x ≡ false
  behind_is z h = elim (two_ways (before z x)) [ inl g ↦ absurd (order.one_way x z h g) | inr g ↦ g ]

  -- those before a place, and those behind it
  pub halves : (hs : List A) → Ascends before hs → AllByRecursion (λ h. (before h x || before x h) ≡ true) hs →
      filter (λ h. before h x) hs ++ filter (λ h. before x h) hs ≡ hs
  halves [] up all = refl
  halves (h ∷ hs) up all = elim (two_ways (before h x)) [
    | inl g ↦ ap (λ b. cond b (h ∷ filter (λ k. before k x) hs) (filter (λ k. before k x) hs) ++ filter (λ k. before x k) (h ∷ hs)) g
        ∙ ap (λ b. (h ∷ filter (λ k. before k x) hs) ++ cond b (h ∷ filter (λ k. before x k) hs) (filter (λ k. before x k) hs)) (front_is g)
        ∙ ap (λ ys. h ∷ ys) (halves hs up.1 all.1)
    | inr g ↦
        let after : before x h ≡ true = ap (λ b. b || before x h) (sym g) ∙ all.0 in
        ap (λ b. cond b (h ∷ filter (λ k. before k x) hs) (filter (λ k. before k x) hs) ++ filter (λ k. before x k) (h ∷ hs)) g
        ∙ ap (λ ys. ys ++ filter (λ k. before x k) (h ∷ hs))
        (filter_off (λ k. before k x) hs
        (all_turned (λ k. before h k ≡ true) (λ k. before k x ≡ false) (λ k e. behind_is k (order.onward x h k after e)) hs up.0))
        ∙ ap (λ b. cond b (h ∷ filter (λ k. before x k) hs) (filter (λ k. before x k) hs)) after
        ∙ ap (λ ys. h ∷ ys)
        (filter_of (λ k. before x k) hs (all_turned (λ k. before h k ≡ true) (λ k. before x k ≡ true) (λ k e. order.onward x h k after e) hs up.0))
  ]
    where
      front_is : before h x ≡ true → before x h ≡ false
      front_is g = elim (two_ways (before x h)) [ inl e ↦ absurd (order.one_way h x g e) | inr e ↦ e ]

  -- another goes in before this one goes
  without_with : (z : A) (ks : List A) → Ascends before ks → (b : Bool) →
      (before z x || before x z) ≡ b →
      without_one before x (with_one before z ks) ≡ cond b (with_one before z (without_one before x ks)) (without_one before x ks)
  without_with z ks up true e =
      filter-append (λ y. before y x || before x y) (filter (λ y. before y z) ks) (z ∷ filter (λ y. before z y) ks)
      ∙ ap (λ b. filter (λ y. before y x || before x y) (filter (λ y. before y z) ks) ++ cond b
      (z ∷ filter (λ y. before y x || before x y) (filter (λ y. before z y) ks)) (filter (λ y. before y x || before x y) (filter (λ y. before z y) ks)))
      e
      ∙ ap (λ ys. ys ++ z ∷ filter (λ y. before y x || before x y) (filter (λ y. before z y) ks))
      (filter_twice (λ y. before y x || before x y) (λ y. before y z) ks)
      ∙ ap (λ ys. filter (λ y. before y z) (without_one before x ks) ++ z ∷ ys) (filter_twice (λ y. before y x || before x y) (λ y. before z y) ks)
  without_with z ks up false e =
      filter-append (λ y. before y x || before x y) (filter (λ y. before y z) ks) (z ∷ filter (λ y. before z y) ks)
      ∙ ap (λ b. filter (λ y. before y x || before x y) (filter (λ y. before y z) ks) ++ cond b
      (z ∷ filter (λ y. before y x || before x y) (filter (λ y. before z y) ks)) (filter (λ y. before y x || before x y) (filter (λ y. before z y) ks)))
      e
      ∙ ap (λ ys. ys ++ filter (λ y. before y x || before x y) (filter (λ y. before z y) ks))
      (filter_twice (λ y. before y x || before x y) (λ y. before y z) ks)
      ∙ ap (λ ys. filter (λ y. before y z) (without_one before x ks) ++ ys) (filter_twice (λ y. before y x || before x y) (λ y. before z y) ks)
      ∙ ap (λ ys. ys ++ filter (λ y. before z y) (without_one before x ks))
      (filter_alike (λ y. before y z) (λ y. before y x) (λ y. order.alike_back z x y e) (without_one before x ks))
      ∙ ap (λ ys. filter (λ y. before y x) (without_one before x ks) ++ ys)
      (filter_alike (λ y. before z y) (λ y. before x y) (λ y. order.alike z x y e) (without_one before x ks))
      ∙ halves (without_one before x ks) (ascends_without before x ks up) (all_passed (λ y. before y x || before x y) ks)
    where
      filter_alike : (p q : A → Bool) → ((y : A) → p y ≡ q y) → (ys : List A) → filter p ys ≡ filter q ys
      filter_alike p q h [] = refl
      filter_alike p q h (y ∷ ys) = ap (λ b. cond b (y ∷ filter p ys) (filter p ys)) (h y) ∙ ap (λ zs. cond (q y) (y ∷ zs) zs) (filter_alike p q h ys)

  -- what goes before it is put in order, or after
  pub without_fold : (ks zs : List A) → Ascends before ks →
      without_one before x (fold (λ kept z. with_one before z kept) ks zs) ≡ fold (λ kept z. with_one before z kept) (without_one before x ks)
      (without_one before x zs)
  without_fold ks [] up = refl
  without_fold ks (z ∷ zs) up =
      without_fold (with_one before z ks) zs (ascends_with before z ks order up)
      ∙ ap (λ hs. fold (λ kept z. with_one before z kept) hs (without_one before x zs)) (without_with z ks up (before z x || before x z) refl)
      ∙ step (before z x || before x z)
    where
      step : (b : Bool) →
          fold (λ kept z. with_one before z kept) (cond b (with_one before z (without_one before x ks)) (without_one before x ks)) (without_one before x zs)
          ≡ fold (λ kept z. with_one before z kept) (without_one before x ks) (cond b (z ∷ without_one before x zs) (without_one before x zs))
      step true = refl
      step false = refl
