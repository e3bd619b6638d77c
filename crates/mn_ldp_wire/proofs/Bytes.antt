-- Numbers as bytes, and the bytes in front of others.
use Rattle.std.proofs.Common.{◌≡◌, ◌≤◌, ◌<◌, ◌^◌, ℕ, zero, suc, List, [], ◌∷◌, ◌++◌, length, take, drop, refl, arith, inl, inr}
use Rattle.std.proofs.lemmas.Bool.{cases_lt}
use Rattle.std.proofs.lemmas.List.{get_or-take, get_or_past, length-take}
use Rattle.byteorder.specs.Endian.{big_bytes, big_number}
use Rattle.byteorder.specs.Numbers.{big_from-lt, big_number-reads_back}
use Rattle.mn_ldp_wire.specs.Grammar.{IsBytes}

cells : (a b c d : ℕ) (xs ys : List ℕ) → a ≡ b → c ≡ d → xs ≡ ys → a ∷ c ∷ xs ≡ b ∷ d ∷ ys
cells a b c d xs ys e f g = cc

pub two_again : (bs : List ℕ) → IsBytes bs → 2 ≤ length bs → bs ≡ big_bytes 2 (big_number 2 bs) ++ drop 2 bs
two_again [] h long = absurd (omega arith)
two_again (a ∷ []) h long = absurd (omega arith)
two_again (a ∷ b ∷ bs) h long =
    let x = h.below 0 in
    let y = h.below 1 in
    cells _ _ _ _ bs bs (omega arith) (omega arith) refl

pub four_again : (bs : List ℕ) → IsBytes bs → 4 ≤ length bs → bs ≡ big_bytes 4 (big_number 4 bs) ++ drop 4 bs
four_again [] h long = absurd (omega arith)
four_again (a ∷ []) h long = absurd (omega arith)
four_again (a ∷ b ∷ []) h long = absurd (omega arith)
four_again (a ∷ b ∷ c ∷ []) h long = absurd (omega arith)
four_again (a ∷ b ∷ c ∷ d ∷ bs) h long =
    let w = h.below 0 in
    let x = h.below 1 in
    let y = h.below 2 in
    let z = h.below 3 in
    cells _ _ _ _ _ _ (omega arith) (omega arith) (cells _ _ _ _ bs bs (omega arith) (omega arith) refl)

pub two_fits : (bs : List ℕ) → IsBytes bs → big_number 2 bs < 2 ^ 16
two_fits bs h = big_from-lt 0 2 bs h.below

pub four_fits : (bs : List ℕ) → IsBytes bs → big_number 4 bs < 2 ^ 32
four_fits bs h = big_from-lt 0 4 bs h.below

pub two_back : (n : ℕ) (bs : List ℕ) → n < 2 ^ 16 → big_number 2 (big_bytes 2 n ++ bs) ≡ n
two_back n bs h = big_number-reads_back 2 n bs h

pub four_back : (n : ℕ) (bs : List ℕ) → n < 2 ^ 32 → big_number 4 (big_bytes 4 n ++ bs) ≡ n
four_back n bs h = big_number-reads_back 4 n bs h
