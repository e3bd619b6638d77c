-- Sums over lists of numbers.
use Rattle.std.proofs.Common.{ℕ, zero, suc, ◌≡◌, ◌+◌, ◌*◌, ◌<◌, ◌≤◌, inl, inr, Bool, true, false, cond, List, [], ◌∷◌, ◌++◌, map, filter, refl, arith, sym}
use Rattle.std.proofs.Common.{◌∙◌, ap}
use Rattle.std.specs.Prelude.{◌==◌, ◌&&◌, sum}
use Rattle.std.specs.List.{flat_map, range_with_len}
use Rattle.std.proofs.lemmas.Bool.Decides.{eqb_tells}
use Rattle.std.proofs.lemmas.List.Sums.{sum_by-append}
use Rattle.mn_base.proofs.Bools.{clash}
use Rattle.mn_ledger.specs.Verdicts.{one_if}
use Rattle.mn_ledger.proofs.Members.{In}

-- over the list's elements
abbrev pub total : {A : Type 0} → (A → ℕ) → List A → ℕ
total f [] = 0
total f (x ∷ xs) = f x + total f xs

-- the number where the test holds, and else none
abbrev pub where_so : Bool → ℕ → ℕ
where_so test n = cond test n 0

sum-cons : (x : ℕ) (xs : List ℕ) → sum (x ∷ xs) ≡ x + sum xs
sum-cons x xs = sum_by-append (λ y. y) (x ∷ []) xs ∙ ap (λ z. z + sum xs) (omega arith)

pub sum-append : (xs ys : List ℕ) → sum (xs ++ ys) ≡ sum xs + sum ys
sum-append xs ys = sum_by-append (λ y. y) xs ys

pub sum-map : {A : Type 0} (f : A → ℕ) (xs : List A) → sum (map f xs) ≡ total f xs
sum-map f [] = refl
sum-map f (x ∷ xs) = sum-cons (f x) (map f xs) ∙ ap (λ n. f x + n) (sum-map f xs)

pub sum-flat : {A : Type 0} (g : A → List ℕ) (xs : List A) → sum (flat_map g xs) ≡ total (λ x. sum (g x)) xs
sum-flat g [] = refl
sum-flat g (x ∷ xs) = sum-append (g x) (flat_map g xs) ∙ ap (λ z. sum (g x) + z) (sum-flat g xs)

pub total-same : {A : Type 0} (f g : A → ℕ) (xs : List A) → ((x : A) → In xs x → f x ≡ g x) → total f xs ≡ total g xs
total-same f g [] h = refl
total-same f g (x ∷ xs) h = omega (arith, h x (inl refl), total-same f g xs (λ y i. h y (inr i)))

pub total-add : {A : Type 0} (f g : A → ℕ) (xs : List A) → total (λ x. f x + g x) xs ≡ total f xs + total g xs
total-add f g [] = refl
total-add f g (x ∷ xs) = omega (arith, total-add f g xs)

pub total-none : {A : Type 0} (xs : List A) → total (λ x. 0) xs ≡ 0
total-none [] = refl
total-none (x ∷ xs) = omega (arith, total-none xs)

pub total-where : {A : Type 0} (b : Bool) (f : A → ℕ) (xs : List A) → total (λ x. where_so b (f x)) xs ≡ where_so b (total f xs)
total-where true f xs = refl
total-where false f xs = total-none xs

-- how often a number is among them
abbrev pub times : ℕ → List ℕ → ℕ
times k xs = total (λ x. one_if (k == x)) xs

-- only one number counts
pub total-at : (k : ℕ) (f : ℕ → ℕ) (xs : List ℕ) → total (λ x. where_so (k == x) (f x)) xs ≡ times k xs * f k
total-at k f [] = omega arith
total-at k f (x ∷ xs) = elim (eqb_tells k x) [
  | inl q ↦ ap (λ b. where_so b (f x) + total (λ y. where_so (k == y) (f y)) xs) q.0
      ∙ here (f x) (f k) (total (λ y. where_so (k == y) (f y)) xs) (times k xs) (ap f (sym q.1)) (total-at k f xs)
      ∙ ap (λ b. (one_if b + times k xs) * f k) (sym q.0)
  | inr q ↦ ap (λ b. where_so b (f x) + total (λ y. where_so (k == y) (f y)) xs) q.0
      ∙ off (total (λ y. where_so (k == y) (f y)) xs) (times k xs) (f k) (total-at k f xs) ∙ ap (λ b. (one_if b + times k xs) * f k) (sym q.0)
]
  where
    here : (v m r n : ℕ) → v ≡ m → r ≡ n * m → v + r ≡ (1 + n) * m
    here v m r n e h = omega (arith, e, h)

    off : (r n m : ℕ) → r ≡ n * m → 0 + r ≡ (0 + n) * m
    off r n m h = omega (arith, h)

-- a number within a range is there once
none_there : (k a n : ℕ) → k < a → times k (range_with_len a n) ≡ 0
none_there k a zero h = refl
none_there k a (suc n) h = elim (eqb_tells k a) [
  | inl q ↦ absurd (apart h q.1)
  | inr q ↦ omega (arith, ap one_if q.0, none_there k (a + 1) n (omega (arith, h)))
]
  where
    apart : k < a → k ≡ a → ⊥
    apart h e = omega (arith, h, e)

pub once_there : (k a n : ℕ) → a ≤ k → k < a + n → times k (range_with_len a n) ≡ 1
once_there k a zero h g = absurd (past h g)
  where
    past : a ≤ k → k < a + 0 → ⊥
    past h g = omega (arith, h, g)
once_there k a (suc n) h g = elim (eqb_tells k a) [
  | inl q ↦ omega (arith, ap one_if q.0, none_there k (a + 1) n (omega (arith, q.1)))
  | inr q ↦ omega (arith, ap one_if q.0, once_there k (a + 1) n (omega (arith, h, q.1)) (omega (arith, g)))
]

-- a filter that a number passes leaves it
pub times-filter : (p : ℕ → Bool) (k : ℕ) (xs : List ℕ) → p k ≡ true → times k (filter p xs) ≡ times k xs
times-filter p k [] h = refl
times-filter p k (x ∷ xs) h = by_test (p x) refl (times-filter p k xs h)
  where
    by_test : (b : Bool) → p x ≡ b → times k (filter p xs) ≡ times k xs → times k (cond b (x ∷ filter p xs) (filter p xs)) ≡ one_if (k == x) + times k xs
    by_test true e rest = omega (arith, rest)
    by_test false e rest = elim (eqb_tells k x) [ inl q ↦ absurd (clash (sym h ∙ ap p q.1 ∙ e)) | inr q ↦ omega (arith, rest, ap one_if q.0) ]

-- of two tests
pub one-both : (a b : Bool) → one_if (a && b) ≡ where_so b (one_if a)
one-both true true = refl
one-both true false = refl
one-both false true = refl
one-both false false = refl

pub where-both : (a b : Bool) (n : ℕ) → where_so (a && b) n ≡ where_so a (where_so b n)
where-both true b n = refl
where-both false b n = refl

pub where-turn : (a b : Bool) (n : ℕ) → where_so (a && b) n ≡ where_so b (where_so a n)
where-turn true true n = refl
where-turn true false n = refl
where-turn false true n = refl
where-turn false false n = refl
