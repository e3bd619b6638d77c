-- Sums over the numbers below a bound.
use Rattle.std.proofs.Common.{ℕ, zero, suc, ◌≡◌, ◌≢◌, ◌+◌, ◌*◌, ◌<◌, ◌≤◌, inl, inr, Bool, true, false, cond, refl, arith, sym, ◌∙◌, ap, subst}
use Rattle.std.specs.Prelude.{◌==◌}
use Rattle.std.proofs.lemmas.Bool.Decides.{eqb_tells}
use Rattle.mn_drain_laws.specs.Sums.{total, where_so}

pub total-below : (n : ℕ) (f g : ℕ → ℕ) → ((i : ℕ) → i < n → f i ≤ g i) → total n f ≤ total n g
total-below zero f g h = omega arith
total-below (suc n) f g h = omega (arith, h n (omega arith), total-below n f g (λ i l. h i (omega (arith, l))))

pub total-same : (n : ℕ) (f g : ℕ → ℕ) → ((i : ℕ) → i < n → f i ≡ g i) → total n f ≡ total n g
total-same zero f g h = refl
total-same (suc n) f g h = omega (arith, h n (omega arith), total-same n f g (λ i l. h i (omega (arith, l))))

pub total-add : (n : ℕ) (f g : ℕ → ℕ) → total n (λ i. f i + g i) ≡ total n f + total n g
total-add zero f g = refl
total-add (suc n) f g = omega (arith, total-add n f g)

pub total-none : (n : ℕ) (f : ℕ → ℕ) → ((i : ℕ) → i < n → f i ≡ 0) → total n f ≡ 0
total-none zero f h = refl
total-none (suc n) f h = omega (arith, h n (omega arith), total-none n f (λ i l. h i (omega (arith, l))))

-- the sums of rows are the sums of columns
pub total-turn : (n m : ℕ) (f : ℕ → ℕ → ℕ) → total n (λ i. total m (f i)) ≡ total m (λ j. total n (λ i. f i j))
total-turn zero m f = sym (total-none m (λ j. 0) (λ i l. refl))
total-turn (suc n) m f = ap (λ x. total m (f n) + x) (total-turn n m f) ∙ sym (total-add m (f n) (λ j. total n (λ i. f i j)))

-- one of the values
pub total-one : (n : ℕ) (f : ℕ → ℕ) (k : ℕ) → k < n → f k ≤ total n f
total-one zero f k h = absurd (none h)
  where
    none : k < 0 → ⊥
    none h = omega (arith, h)
total-one (suc n) f k h = elim (eqb_tells k n) [
  | inl e ↦ omega (arith, ap f e.1)
  | inr e ↦ omega (arith, total-one n f k (less h e.1))
]
  where
    less : k < suc n → k ≢ n → k < n
    less h d = grind (arith, h, d)

-- where all values but one are no greater, what is lost and won at that one is lost and won in all
pub total-but-one : (n : ℕ) (f g : ℕ → ℕ) (k a b : ℕ) → k < n → ((i : ℕ) → i < n → i ≢ k → g i ≤ f i) → g k + a ≤ f k + b → total n g + a ≤ total n f + b
total-but-one zero f g k a b h others here = absurd (none h)
  where
    none : k < 0 → ⊥
    none h = omega (arith, h)
total-but-one (suc n) f g k a b h others here = elim (eqb_tells k n) [
  | inl e ↦ omega (arith, subst (λ i. g i + a ≤ f i + b) e.1 here, total-below n g f (λ i l. others i (omega (arith, l)) (λ q. apart i l (q ∙ e.1))))
  | inr e ↦ omega (arith, others n (omega arith) (λ q. e.1 (sym q)), total-but-one n f g k a b (less h e.1) (λ i l d. others i (omega (arith, l)) d) here)
]
  where
    less : k < suc n → k ≢ n → k < n
    less h d = grind (arith, h, d)

    apart : (i : ℕ) → i < n → i ≡ n → ⊥
    apart i l q = omega (arith, l, q)

-- where only one value may be other than none
pub total-only : (n : ℕ) (f : ℕ → ℕ) (k a : ℕ) → ((i : ℕ) → i < n → i ≢ k → f i ≡ 0) → f k ≤ a → total n f ≤ a
total-only zero f k a others here = omega arith
total-only (suc n) f k a others here = elim (eqb_tells k n) [
  | inl e ↦ omega (arith, subst (λ i. f i ≤ a) e.1 here, total-none n f (λ i l. others i (omega (arith, l)) (λ q. apart i l (q ∙ e.1))))
  | inr e ↦ omega (arith, others n (omega arith) (λ q. e.1 (sym q)), total-only n f k a (λ i l d. others i (omega (arith, l)) d) here)
]
  where
    apart : (i : ℕ) → i < n → i ≡ n → ⊥
    apart i l q = omega (arith, l, q)

pub total-most : (n : ℕ) (f : ℕ → ℕ) (a : ℕ) → ((i : ℕ) → i < n → f i ≤ a) → total n f ≤ n * a
total-most zero f a h = omega arith
total-most (suc n) f a h = grind (arith, h n (omega arith), total-most n f a (λ i l. h i (omega (arith, l))))

pub total-times : (n : ℕ) (f : ℕ → ℕ) (b : Bool) → total n (λ i. where_so b (f i)) ≡ where_so b (total n f)
total-times n f true = refl
total-times n f false = total-none n (λ i. 0) (λ i l. refl)

-- the same for two
pub total-but-two : (n : ℕ) (f g : ℕ → ℕ) (k j a c b : ℕ) → k < n → j < n → k ≢ j → ((i : ℕ) → i < n → i ≢ k → i ≢ j → g i ≤ f i) → g k + a ≤ f k
    → g j + c ≤ f j + b → total n g + a + c ≤ total n f + b
total-but-two n f g k j a c b hk hj apart others at_k at_j =
    omega (
      arith,
      total-but-one n f half k a 0 hk (λ i h d. same (ap (λ z. cond z (g i) (f i)) (unequal i k d))) (omega (arith, here, at_k)),
      total-but-one n half g j c b hj last (omega (arith, at_j, off)),
    )
  where
    half : ℕ → ℕ
    half i = cond (i == k) (g i) (f i)

    same : {x y : ℕ} → x ≡ y → x ≤ y
    same e = omega (arith, e)

    unequal : (i q : ℕ) → i ≢ q → (i == q) ≡ false
    unequal i q d = elim (eqb_tells i q) [ inl e ↦ absurd (d e.1) | inr e ↦ e.0 ]

    equal : (i : ℕ) → (i == i) ≡ true
    equal i = elim (eqb_tells i i) [ inl e ↦ e.0 | inr e ↦ absurd (e.1 refl) ]

    here : half k ≡ g k
    here = ap (λ z. cond z (g k) (f k)) (equal k)

    off : half j ≡ f j
    off = ap (λ z. cond z (g j) (f j)) (unequal j k (λ e. apart (sym e)))

    last : (i : ℕ) → i < n → i ≢ j → g i ≤ half i
    last i h d = elim (eqb_tells i k) [
      | inl e ↦ same (sym (ap (λ z. cond z (g i) (f i)) e.0))
      | inr e ↦ omega (arith, ap (λ z. cond z (g i) (f i)) e.0, others i h e.1 d)
    ]
