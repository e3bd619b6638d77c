-- The first line feed, as a search finds it.
use Rattle.std.proofs.Common.{◌≡◌, ℕ, Bool, true, false, ◌==◌, List, length, Option, Some, None, position, refl, arith, le_refl}
use Rattle.std.proofs.lemmas.Bool.Decides.{nat_tests}
use Rattle.std.proofs.lemmas.List.Sums.{position_or_len_is}
use Rattle.std.specs.List.{position_or_len}
use Rattle.memchr.specs.Find.{IsFirstByte, is_byte}

fails : (b : Bool) → ¬ (b ≡ true) → b ≡ false
fails true never = absurd (never refl)
fails false never = refl

-- the first place of a byte that a search has found is its position
pub first_feed_is : (bs : List ℕ) (r : Option ℕ) → IsFirstByte (is_byte 10) bs r → r ≡ position (λ b. b == 10) bs
first_feed_is bs None none =
    let at : position_or_len (λ b. b == 10) bs ≡ length bs =
    position_or_len_is (λ b. b == 10) bs (length bs) 0 (le_refl (length bs)) (λ k before. fails _ (none k (omega arith) before))
    (λ past. absurd (omega arith)) in
    rw at (grind (arith, nat_tests))
first_feed_is bs (Some i) found =
    let first = found.0 in
    let at : position_or_len (λ b. b == 10) bs ≡ i =
    position_or_len_is (λ b. b == 10) bs i 0 (omega (arith, first.high)) (λ k before. fails _ (first.before k (omega arith) before)) (λ there. found.1) in
    rw at (grind (arith, nat_tests, first.high))
