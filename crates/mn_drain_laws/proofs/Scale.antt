-- Products in sums.
use Rattle.std.proofs.Common.{ℕ, zero, suc, ◌≡◌, ◌+◌, ◌*◌, ◌≤◌, Bool, true, false, arith, sym, ◌∙◌, ap}
use Rattle.mn_drain_laws.specs.Sums.{total, where_so}

add-times : (a b c : ℕ) → (a + b) * c ≡ a * c + b * c
add-times a b c = grind arith

pub times-up : (a b c : ℕ) → a ≤ b → a * c ≤ b * c
times-up a b c h = grind (arith, h)

pub total-scale : (n : ℕ) (f : ℕ → ℕ) (k : ℕ) → total n (λ i. f i * k) ≡ total n f * k
total-scale zero f k = omega arith
total-scale (suc n) f k = ap (λ x. f n * k + x) (total-scale n f k) ∙ sym (add-times (f n) (total n f) k)

pub where-scale : (b : Bool) (k : ℕ) → where_so b k ≡ where_so b 1 * k
where-scale true k = omega arith
where-scale false k = omega arith

-- the greetings weigh no more than as many mentions, and three more for each link and direction
pub greetings : (p m : ℕ) → 1 ≤ m → 3 + p * m ≤ (p + 3) * m
greetings p m h = grind (arith, h)

pub suc-times : (n k : ℕ) → suc n * k ≡ k + n * k
suc-times n k = grind arith
