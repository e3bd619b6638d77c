-- Numbers and their bytes.
use Rattle.std.proofs.Common.{◌≡◌, ◌<◌, ◌-◌, ◌/◌, ◌%◌, ◌^◌, ℕ, zero, suc, [], ◌∷◌, refl, arith}
use Rattle.std.specs.Int.{from_be_bytes, w64}
use Rattle.std.proofs.lemmas.Nat.{be_bytes_8}
use Rattle.byteorder.specs.Endian.{big_bytes, big_number}
use Rattle.mn_vpn_nlri.specs.Reading.{IsBytes}
use Rattle.mn_prefix.proofs.PrefixBytes.{three}

-- three bytes and eight are the bytes of their number

pub number-three : (a b c : ℕ) → a < 256 → b < 256 → c < 256 → big_bytes 3 (big_number 3 (a ∷ b ∷ c ∷ [])) ≡ a ∷ b ∷ c ∷ []
number-three a b c ha hb hc =
    let n = big_number 3 (a ∷ b ∷ c ∷ []) in
    let first : n / 256 ^ 2 % 256 ≡ a = omega arith in
    let second : n / 256 ^ 1 % 256 ≡ b = omega arith in
    let third : n % 256 ≡ c = omega arith in
    three first second third

from_be-big_number : (a b c d e f g h : ℕ) → big_number 8 (a ∷ b ∷ c ∷ d ∷ e ∷ f ∷ g ∷ h ∷ []) ≡ from_be_bytes w64 (a ∷ b ∷ c ∷ d ∷ e ∷ f ∷ g ∷ h ∷ [])
from_be-big_number a b c d e f g h = omega arith

pub number-eight : (a b c d e f g h : ℕ) → IsBytes (a ∷ b ∷ c ∷ d ∷ e ∷ f ∷ g ∷ h ∷ []) →
    big_bytes 8 (big_number 8 (a ∷ b ∷ c ∷ d ∷ e ∷ f ∷ g ∷ h ∷ [])) ≡ a ∷ b ∷ c ∷ d ∷ e ∷ f ∷ g ∷ h ∷ []
number-eight a b c d e f g h bytes =
    be_bytes_8 (a ∷ b ∷ c ∷ d ∷ e ∷ f ∷ g ∷ h ∷ []) (big_number 8 (a ∷ b ∷ c ∷ d ∷ e ∷ f ∷ g ∷ h ∷ [])) refl (λ i. bytes.below i)
    (from_be-big_number a b c d e f g h)
