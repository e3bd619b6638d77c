-- Numbers below 256, and numbers of two and of four bytes.
use Rattle.std.proofs.Common.{◌≡◌, ◌<◌, ◌+◌, ◌*◌, ◌/◌, ◌%◌, ◌^◌, ℕ, suc, List, [], ◌∷◌, ◌++◌, length, refl, subst, arith}
use Rattle.std.proofs.lemmas.List.{take_at}
use Rattle.byteorder.specs.Endian.{big_number, big_bytes}
use Rattle.byteorder.specs.Numbers.{big_number-reads_back}
use Rattle.mn_vpn_nlri.specs.Reading.{IsBytes}
use Rattle.mn_base.proofs.Bytes.{IsBytes-take}

pub bytes-rest : (xs ys : List ℕ) → IsBytes (xs ++ ys) → IsBytes ys
bytes-rest [] ys h = h
bytes-rest (x ∷ xs) ys h = bytes-rest xs ys (record { below = λ i. h.below (suc i) })

pub bytes-cons : (x : ℕ) (xs : List ℕ) → IsBytes (x ∷ xs) → IsBytes xs
bytes-cons x xs h = record { below = λ i. h.below (suc i) }

pub bytes-front : (xs ys : List ℕ) → IsBytes (xs ++ ys) → IsBytes xs
bytes-front xs ys h = subst IsBytes (take_at xs ys (length xs) refl) (IsBytes-take (length xs) (xs ++ ys) h)

pub two_again : (a b : ℕ) → a < 256 → b < 256 → big_bytes 2 (a * 256 + b) ≡ a ∷ b ∷ []
two_again a b la lb = let high : (a * 256 + b) / 256 ^ 1 % 256 ≡ a = omega arith in let low : (a * 256 + b) % 256 ≡ b = omega arith in cc

-- a number that fits its bytes is the number in them
pub two_back : (n : ℕ) → n < 2 ^ 16 → n / 256 ^ 1 % 256 * 256 + n % 256 ≡ n
two_back n h = omega arith

pub number_back : (k n : ℕ) (rest : List ℕ) → n < 256 ^ k → big_number k (big_bytes k n ++ rest) ≡ n
number_back k n rest h = big_number-reads_back k n rest h

pub two_of : (a b : ℕ) (rest : List ℕ) → a < 256 → b < 256 → big_bytes 2 (big_number 2 (a ∷ b ∷ rest)) ≡ a ∷ b ∷ []
two_of a b rest la lb =
    let n = big_number 2 (a ∷ b ∷ rest) in
    let high : n / 256 ^ 1 % 256 ≡ a = omega arith in
    let low : n % 256 ≡ b = omega arith in
    cc

pub four_of : (a b c d : ℕ) (rest : List ℕ) → a < 256 → b < 256 → c < 256 → d < 256 → big_bytes 4 (big_number 4 (a ∷ b ∷ c ∷ d ∷ rest)) ≡ a ∷ b ∷ c ∷ d ∷ []
four_of a b c d rest la lb lc ld =
    let n = big_number 4 (a ∷ b ∷ c ∷ d ∷ rest) in
    let first : n / 256 ^ 3 % 256 ≡ a = omega arith in
    let second : n / 256 ^ 2 % 256 ≡ b = omega arith in
    let third : n / 256 ^ 1 % 256 ≡ c = omega arith in
    let fourth : n % 256 ≡ d = omega arith in
    cc
