-- Orders by one number after another.
use Rattle.std.proofs.Common.{ℕ, suc, ◌≡◌, ◌<◌, ◌⊎◌, inl, inr, Bool, true, false, arith, sym, ◌∙◌, ap}
use Rattle.std.specs.Prelude.{◌==◌, ◌&&◌, ◌||◌, nat_lt}
use Rattle.std.proofs.lemmas.Bool.Decides.{eqb_tells, leb_tells, nat_tests}
use Rattle.mn_base.proofs.Bools.{no, less_is, less_tells, or_off, test_same}
use Rattle.mn_base.specs.Ordered.{first_by, IsOrder}

less_not : (m n : ℕ) → m ≡ n → nat_lt m n ≡ false
less_not m n h = grind (arith, nat_tests, h)

pub first_tells : (m n : ℕ) (later : Bool) → first_by m n later ≡ true → (m < n) ⊎ ((m ≡ n) × (later ≡ true))
first_tells m n later h = elim (leb_tells (suc m) n) [
  | inl p ↦ inl p.1
  | inr p ↦ elim (eqb_tells m n) [
    | inl q ↦ inr (q.1, sym (ap (λ b. b || ((m == n) && later)) p.0 ∙ ap (λ b. b && later) q.0) ∙ h)
    | inr q ↦ absurd (no (sym (ap (λ b. b || ((m == n) && later)) p.0 ∙ ap (λ b. b && later) q.0) ∙ h))
  ]
]

pub first_less : (m n : ℕ) (later : Bool) → m < n → first_by m n later ≡ true
first_less m n later h = ap (λ b. b || ((m == n) && later)) (less_is m n h)

pub first_same : (m n : ℕ) (later : Bool) → m ≡ n → first_by m n later ≡ later
first_same m n later h = ap (λ b. b || ((m == n) && later)) (less_not m n h) ∙ ap (λ b. b && later) (test_same m n h)

-- neither comes first
pub first_neither : (m n : ℕ) (later sooner : Bool) → (first_by m n later || first_by n m sooner) ≡ false → (m ≡ n) × ((later || sooner) ≡ false)
first_neither m n later sooner h =
    let parts = or_off (first_by m n later) (first_by n m sooner) h in
    elim (leb_tells (suc m) n) [
      | inl p ↦ absurd (no (sym parts.0 ∙ first_less m n later p.1))
      | inr p ↦ elim (leb_tells (suc n) m) [
        | inl q ↦ absurd (no (sym parts.1 ∙ first_less n m sooner q.1))
        | inr q ↦ let e : m ≡ n = omega (arith, p.1, q.1) in
            (e, ap (λ b. b || sooner) (sym (first_same m n later e) ∙ parts.0) ∙ sym (first_same n m sooner (sym e)) ∙ parts.1)
      ]
    ]

pub by_number : {A : Type 0} (f : A → ℕ) → IsOrder (λ (x y : A). nat_lt (f x) (f y))
by_number f = record {
  onward = λ x y z h g. less_is (f x) (f z) (omega (arith, less_tells (f x) (f y) h, less_tells (f y) (f z) g));
  one_way = λ x y h g. omega (arith, less_tells (f x) (f y) h, less_tells (f y) (f x) g);
  alike = λ x y z h. ap (λ n. nat_lt n (f z)) (one (f x) (f y) h);
  alike_back = λ x y z h. ap (λ n. nat_lt (f z) n) (one (f x) (f y) h);
}
  where
    one : (m n : ℕ) → (nat_lt m n || nat_lt n m) ≡ false → m ≡ n
    one m n h = elim (leb_tells (suc m) n) [
      | inl p ↦ absurd (no (sym h ∙ ap (λ b. b || nat_lt n m) p.0))
      | inr p ↦ elim (leb_tells (suc n) m) [
        | inl q ↦ absurd (no (sym h ∙ ap (λ b. b || nat_lt n m) p.0 ∙ q.0))
        | inr q ↦ omega (arith, p.1, q.1)
      ]
    ]

pub by_number_then : {A : Type 0} (f : A → ℕ) (before : A → A → Bool) → IsOrder before → IsOrder (λ x y. first_by (f x) (f y) (before x y))
by_number_then f before order = record {
  onward = λ x y z h g. elim (first_tells (f x) (f y) (before x y) h) [
    | inl p ↦ elim (first_tells (f y) (f z) (before y z) g) [
      | inl q ↦ first_less (f x) (f z) (before x z) (omega (arith, p, q))
      | inr q ↦ first_less (f x) (f z) (before x z) (omega (arith, p, q.0))
    ]
    | inr p ↦ elim (first_tells (f y) (f z) (before y z) g) [
      | inl q ↦ first_less (f x) (f z) (before x z) (omega (arith, p.0, q))
      | inr q ↦ first_same (f x) (f z) (before x z) (p.0 ∙ q.0) ∙ order.onward x y z p.1 q.1
    ]
  ];
  one_way = λ x y h g. elim (first_tells (f x) (f y) (before x y) h) [
    | inl p ↦ elim (first_tells (f y) (f x) (before y x) g) [
      | inl q ↦ omega (arith, p, q)
      | inr q ↦ omega (arith, p, q.0)
    ]
    | inr p ↦ elim (first_tells (f y) (f x) (before y x) g) [
      | inl q ↦ omega (arith, p.0, q)
      | inr q ↦ order.one_way x y p.1 q.1
    ]
  ];
  alike = λ x y z h. let n = first_neither (f x) (f y) (before x y) (before y x) h in
      ap (λ m. first_by m (f z) (before x z)) n.0 ∙ ap (λ b. first_by (f y) (f z) b) (order.alike x y z n.1);
  alike_back = λ x y z h. let n = first_neither (f x) (f y) (before x y) (before y x) h in
      ap (λ m. first_by (f z) m (before z x)) n.0 ∙ ap (λ b. first_by (f z) (f y) b) (order.alike_back x y z n.1);
}

pub order_same : {A : Type 0} (f g : A → A → Bool) → ((x y : A) → f x y ≡ g x y) → IsOrder g → IsOrder f
order_same f g same order = record {
  onward = λ x y z h k. same x z ∙ order.onward x y z (sym (same x y) ∙ h) (sym (same y z) ∙ k);
  one_way = λ x y h k. order.one_way x y (sym (same x y) ∙ h) (sym (same y x) ∙ k);
  alike = λ x y z h. same x z ∙ order.alike x y z (sym (ap (λ b. b || f y x) (same x y) ∙ ap (λ b. g x y || b) (same y x)) ∙ h) ∙ sym (same y z);
  alike_back = λ x y z h. same z x ∙ order.alike_back x y z (sym (ap (λ b. b || f y x) (same x y) ∙ ap (λ b. g x y || b) (same y x)) ∙ h) ∙ sym (same z y);
}

pub numbers_are_ordered : IsOrder nat_lt
numbers_are_ordered = by_number (λ n. n)
