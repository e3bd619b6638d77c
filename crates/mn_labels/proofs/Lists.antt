-- Lists of optional numbers and meanings, filters of ranges, and that a list of unlike numbers isn't longer than one that has them.
use Rattle.std.proofs.Common.{ℕ, zero, suc, ◌≡◌, ◌≢◌, ◌+◌, ◌≤◌, ◌<◌, ◌⊎◌, inl, inr, Bool, true, false, cond, List, [], ◌∷◌, ◌++◌, filter, length, get_or, set}
use Rattle.std.proofs.Common.{refl, arith, sym, ◌∙◌, ap}
use Rattle.std.specs.Prelude.{Option, Some, None, not, ◌==◌}
use Rattle.std.specs.List.{range_with_len}
use Rattle.mn_base.proofs.Bools.{clash, other_numbers, other_test}
use Rattle.mn_base.proofs.Members.{In, filter_in, in_range, AreApart}

-- 1. Lists of options, read with None past the end

pub inside_at : {A : Type 0} (xs : List (Option A)) (k : ℕ) (y : A) → get_or xs k None ≡ Some y → k < length xs
inside_at [] k y e = cc
inside_at (x ∷ xs) zero y e = omega arith
inside_at (x ∷ xs) (suc k) y e = more (inside_at xs k y e)
  where
    more : {a b : ℕ} → a < b → suc a < suc b
    more h = omega (arith, h)

pub grown : {A : Type 0} (xs : List (Option A)) (x : Option A) (k : ℕ) (y : A) → get_or xs k None ≡ Some y → get_or (xs ++ x ∷ []) k None ≡ Some y
grown [] x k y e = cc
grown (z ∷ xs) x zero y e = e
grown (z ∷ xs) x (suc k) y e = grown xs x k y e

pub grown_below : {A : Type 0} (xs : List (Option A)) (x : Option A) (k : ℕ) → k < length xs → get_or (xs ++ x ∷ []) k None ≡ get_or xs k None
grown_below [] x k h = absurd (omega (arith, h))
grown_below (z ∷ xs) x zero h = refl
grown_below (z ∷ xs) x (suc k) h = grown_below xs x k (omega (arith, h))

pub grown_end : {A : Type 0} (xs : List (Option A)) (x : Option A) (k : ℕ) → k ≡ length xs → get_or (xs ++ x ∷ []) k None ≡ x
grown_end [] x zero e = refl
grown_end [] x (suc k) e = absurd (omega (arith, e))
grown_end (z ∷ xs) x zero e = absurd (omega (arith, e))
grown_end (z ∷ xs) x (suc k) e = grown_end xs x k (omega (arith, e))

pub grown_back : {A : Type 0} (xs : List (Option A)) (x : Option A) (k : ℕ) (y : A) → get_or (xs ++ x ∷ []) k None ≡ Some y →
    (get_or xs k None ≡ Some y) ⊎ ((k ≡ length xs) × (x ≡ Some y))
grown_back [] x zero y e = inr (refl, e)
grown_back [] x (suc k) y e = cc
grown_back (z ∷ xs) x zero y e = inl e
grown_back (z ∷ xs) x (suc k) y e = elim (grown_back xs x k y e) [ inl h ↦ inl h | inr h ↦ inr (ap suc h.0, h.1) ]

pub set_back : {A : Type 0} (xs : List (Option A)) (at : ℕ) (x : Option A) (k : ℕ) (y : A) → get_or (set xs at x) k None ≡ Some y →
    ((k ≡ at) × (x ≡ Some y)) ⊎ ((k ≢ at) × (get_or xs k None ≡ Some y))
set_back [] at x k y e = cc
set_back (z ∷ xs) zero x zero y e = inl (refl, e)
set_back (z ∷ xs) zero x (suc k) y e = inr (λ h. absurd (zero_not h), e)
  where
    zero_not : {a : ℕ} → suc a ≡ 0 → ⊥
    zero_not h = omega (arith, h)
set_back (z ∷ xs) (suc at) x zero y e = inr (λ h. absurd (zero_not h), e)
  where
    zero_not : {a : ℕ} → 0 ≡ suc a → ⊥
    zero_not h = omega (arith, h)
set_back (z ∷ xs) (suc at) x (suc k) y e = elim (set_back xs at x k y e) [
  | inl h ↦ inl (ap suc h.0, h.1)
  | inr h ↦ inr (λ q. h.0 (less q), h.1)
]
  where
    less : {a b : ℕ} → suc a ≡ suc b → a ≡ b
    less q = omega (arith, q)

-- 2. Filters

pub filter_on : {A : Type 0} (p q : A → Bool) (xs : List A) → ((x : A) → In xs x → p x ≡ q x) → filter p xs ≡ filter q xs
filter_on p q [] h = refl
filter_on p q (x ∷ xs) h =
    ap (λ b. cond b (x ∷ filter p xs) (filter p xs)) (h x (inl refl)) ∙ ap (λ ys. cond (q x) (x ∷ ys) ys) (filter_on p q xs (λ y i. h y (inr i)))

-- what passes the narrow test passes the wide one
pub filter_twice : {A : Type 0} (narrow wide : A → Bool) (xs : List A) → ((x : A) → narrow x ≡ true → wide x ≡ true) →
    filter narrow (filter wide xs) ≡ filter narrow xs
filter_twice narrow wide [] h = refl
filter_twice narrow wide (x ∷ xs) h = split (wide x) refl (filter_twice narrow wide xs h)
  where
    out : (b : Bool) → narrow x ≡ b → wide x ≡ false → filter narrow xs ≡ cond b (x ∷ filter narrow xs) (filter narrow xs)
    out true e f = absurd (clash (sym (h x e) ∙ f))
    out false e f = refl

    split : (b : Bool) → wide x ≡ b → filter narrow (filter wide xs) ≡ filter narrow xs →
        filter narrow (cond b (x ∷ filter wide xs) (filter wide xs)) ≡ cond (narrow x) (x ∷ filter narrow xs) (filter narrow xs)
    split true e more = ap (λ ys. cond (narrow x) (x ∷ ys) ys) more
    split false e more = more ∙ out (narrow x) refl e

-- 3. Ranges

pub range_more : (a n : ℕ) → range_with_len a (suc n) ≡ range_with_len a n ++ (a + n) ∷ []
range_more a zero = ap (λ k. k ∷ []) (plain a)
  where
    plain : (a : ℕ) → a ≡ a + 0
    plain a = omega arith
range_more a (suc n) = ap (λ ks. a ∷ ks) (range_more (a + 1) n ∙ ap (λ k. range_with_len (a + 1) n ++ k ∷ []) (along a n))
  where
    along : (a n : ℕ) → a + 1 + n ≡ a + suc n
    along a n = omega arith

pub range_apart : (a n : ℕ) → AreApart {A = ℕ} (λ x y. x ≡ y) (range_with_len a n)
range_apart a zero = tt
range_apart a (suc n) = (λ y i e. above (in_range (a + 1) n y i).0 e, range_apart (a + 1) n)
  where
    above : {a y : ℕ} → a + 1 ≤ y → a ≡ y → ⊥
    above h e = omega (arith, h, e)

-- 4. A list that has unlike numbers is as long at least

without_shorter : (ys : List ℕ) (x : ℕ) → In ys x → length (filter (λ y. not (y == x)) ys) + 1 ≤ length ys
without_shorter [] x i = absurd i
without_shorter (y ∷ ys) x i = split (y == x) refl (without_shorter ys x) i
  where
    keeps : (zs : List ℕ) → length (filter (λ y. not (y == x)) zs) ≤ length zs
    keeps [] = omega arith
    keeps (z ∷ zs) = by (z == x) (keeps zs)
      where
        by : (b : Bool) → length (filter (λ y. not (y == x)) zs) ≤ length zs →
            length (cond (not b) (z ∷ filter (λ y. not (y == x)) zs) (filter (λ y. not (y == x)) zs)) ≤ length (z ∷ zs)
        by true h = omega (arith, h)
        by false h = omega (arith, h)

    split : (b : Bool) → (y == x) ≡ b → (In ys x → length (filter (λ y. not (y == x)) ys) + 1 ≤ length ys) → In (y ∷ ys) x →
        length (cond (not b) (y ∷ filter (λ z. not (z == x)) ys) (filter (λ z. not (z == x)) ys)) + 1 ≤ length (y ∷ ys)
    split true e more j = let k = keeps ys in omega (arith, k)
    split false e more j = elim j [
      | inl q ↦ absurd (other_numbers y x e q)
      | inr k ↦ let h = more k in omega (arith, h)
    ]

pub has_at_least : (xs ys : List ℕ) → AreApart {A = ℕ} (λ x y. x ≡ y) xs → ((x : ℕ) → In xs x → In ys x) → length xs ≤ length ys
has_at_least [] ys apart all = omega arith
has_at_least (x ∷ xs) ys apart all =
    let rest = has_at_least xs (filter (λ y. not (y == x)) ys) apart.1
    (λ y i. filter_in (λ y. not (y == x)) ys y (all y (inr i)) (ap not (other_test y x (λ e. apart.0 y i (sym e))))) in
    let fewer = without_shorter ys x (all x (inl refl)) in
    omega (arith, rest, fewer)
