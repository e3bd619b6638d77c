-- Tests of numbers, and what a `Bool` tells: the small lemmas that many proofs take, std's under this project's names.
use Rattle.std.proofs.Common.{ℕ, ◌≡◌, ◌<◌, ◌⊎◌, inl, inr, Bool, true, false, refl, arith}
use Rattle.std.specs.Prelude.{◌≢◌, ◌==◌, ◌&&◌, ◌||◌, not, nat_lt}
use Rattle.std.proofs.lemmas.Bool.{both_ways, eqb-false}
pub use Rattle.std.proofs.lemmas.Bool.{false≢true as no, true≢false as clash, cases_Bool as two_ways}
pub use Rattle.std.proofs.lemmas.Bool.{and_parts, and_from as and_on, and_left as and_off_left, and_right as and_off_right}
pub use Rattle.std.proofs.lemmas.Bool.{or_parts as or_off, or_cases as or_ways, or_left, or_right}
pub use Rattle.std.proofs.lemmas.Bool.{not_from_false as not_on, not-true as not_true, not-false as not_false}
pub use Rattle.std.proofs.lemmas.Bool.{eqb-true as same_numbers, eq-eqb as test_same, ne_eqb as other_test}
pub use Rattle.std.proofs.lemmas.Bool.{lt-ltb as less_is, ltb-true as less_tells, le-ltb as not_less, ltb-false as not_less_tells}
pub use Rattle.std.proofs.lemmas.Bool.{le-leb as at_most_is, leb-true as at_most_tells, lt-leb as not_at_most, leb-false as not_at_most_tells}

-- 1. A Bool is one of two

pub not_both_ways : (b : Bool) → b ≡ true → b ≡ false → ⊥
not_both_ways b h g = both_ways b g h

pub never : (b : Bool) → (b ≡ true → ⊥) → b ≡ false
never true h = absurd (h refl)
never false h = refl

pub swap : {P Q : Type 0} → P ⊎ Q → Q ⊎ P
swap (inl p) = inr p
swap (inr q) = inl q

-- 2. Both, either, not

pub and_left : (a b : Bool) → (a && b) ≡ true → a ≡ true
and_left a b h = (and_parts a b h).0

pub and_right : (a b : Bool) → (a && b) ≡ true → b ≡ true
and_right a b h = (and_parts a b h).1

pub and_false : (b : Bool) → (b && false) ≡ false
and_false b = and_off_right b false refl

pub or_true : (b : Bool) → (b || true) ≡ true
or_true b = or_right b true refl

-- 3. Numbers

pub none_below : (n : ℕ) → n < 0 → ⊥
none_below n h = omega (arith, h)

pub less_itself : (n : ℕ) → nat_lt n n ≡ false
less_itself n = not_less n n (omega arith)

pub same_test : (n : ℕ) → (n == n) ≡ true
same_test n = test_same n n refl

pub other_numbers : (a b : ℕ) → (a == b) ≡ false → a ≢ b
other_numbers a b h = eqb-false a b h

pub unlike_numbers : (a b : ℕ) → not (a == b) ≡ true → a ≢ b
unlike_numbers a b h = other_numbers a b (not_true (a == b) h)
