-- The first bytes of an address tell it, where the others are zero.
use Rattle.std.proofs.Common.{◌≡◌, ◌≤◌, ◌<◌, ◌+◌, ◌-◌, ◌*◌, ◌%◌, ◌^◌, ℕ, zero, suc, List, [], ◌∷◌, length, take, refl, ap, sym, ◌∙◌, arith}
use Rattle.std.proofs.Math.Pow.{mod-mod-pow}
use Rattle.std.proofs.lemmas.List.{length-take-le}
use Rattle.byteorder.specs.Endian.{big_bytes}
use Rattle.byteorder.specs.Numbers.{big_from-lt}
use Rattle.mn_base.specs.Bytes.{IsBytes}
use Rattle.mn_prefix.specs.Prefix.{AddressBlock, IsPrefix}
use Rattle.mn_prefix.specs.Octets.{octets, prefix_octets, address_of}

one : {a p : ℕ} → p ≡ a → p ∷ [] ≡ a ∷ []
one {a} {p} first = cc

two : {a b p q : ℕ} → p ≡ a → q ≡ b → p ∷ q ∷ [] ≡ a ∷ b ∷ []
two {a} {b} {p} {q} first second = cc

pub three : {a b c p q r : ℕ} → p ≡ a → q ≡ b → r ≡ c → p ∷ q ∷ r ∷ [] ≡ a ∷ b ∷ c ∷ []
three {a} {b} {c} {p} {q} {r} first second third = cc

four : {a b c d p q r s : ℕ} → p ≡ a → q ≡ b → r ≡ c → s ≡ d → p ∷ q ∷ r ∷ s ∷ [] ≡ a ∷ b ∷ c ∷ d ∷ []
four {a} {b} {c} {d} {p} {q} {r} {s} first second third fourth = cc

-- bytes are the first of their address
pub first_bytes : (count : ℕ) (bytes : List ℕ) → IsBytes bytes → length bytes ≡ count → count ≤ 4 → take count (big_bytes 4 (address_of bytes)) ≡ bytes
first_bytes zero [] h size few = refl
first_bytes (suc zero) (a ∷ []) h size few = one (let a_fits = h.below 0 in omega arith)
first_bytes (suc (suc zero)) (a ∷ b ∷ []) h size few = let a_fits = h.below 0 in let b_fits = h.below 1 in two (omega arith) (omega arith)
first_bytes (suc (suc (suc zero))) (a ∷ b ∷ c ∷ []) h size few = let a_fits = h.below 0 in let b_fits = h.below 1 in let c_fits = h.below 2 in
    three (omega arith) (omega arith) (omega arith)
first_bytes (suc (suc (suc (suc zero)))) (a ∷ b ∷ c ∷ d ∷ []) h size few =
    let a_fits = h.below 0 in
    let b_fits = h.below 1 in
    let c_fits = h.below 2 in
    let d_fits = h.below 3 in
    four (omega arith) (omega arith) (omega arith) (omega arith)
first_bytes _ _ h size few = absurd (omega arith)

pub octets_again : (bytes : List ℕ) → IsBytes bytes → length bytes ≤ 4 → take (length bytes) (big_bytes 4 (address_of bytes)) ≡ bytes
octets_again bytes h few = first_bytes (length bytes) bytes h refl few

pub address_fits : (bytes : List ℕ) → IsBytes bytes → address_of bytes < 2 ^ 32
address_fits bytes h = big_from-lt 0 4 bytes h.below

address_again : (count address : ℕ) → address < 2 ^ 32 → count ≤ 4 → address % 2 ^ (8 * (4 - count)) ≡ 0 →
    address_of (take count (big_bytes 4 address)) ≡ address
address_again zero address fits few clear = omega arith
address_again (suc zero) address fits few clear = omega arith
address_again (suc (suc zero)) address fits few clear = omega arith
address_again (suc (suc (suc zero))) address fits few clear = omega arith
address_again (suc (suc (suc (suc zero)))) address fits few clear = omega arith
address_again _ address fits few clear = absurd (omega arith)

clear_below : (address high low : ℕ) → address % 2 ^ (high + low) ≡ 0 → address % 2 ^ low ≡ 0
clear_below address high low clear = sym (mod-mod-pow address high low) ∙ ap (λ (n : ℕ). n % 2 ^ low) clear ∙ omega arith

-- the network's bits stand in the first bytes of the address, so these are all of it
pub prefix_again : (address bits : ℕ) → IsPrefix address bits → address_of (take (octets bits) (big_bytes 4 address)) ≡ address
prefix_again address bits p =
    let short = p.short in
    let split : 32 - bits ≡ (32 - bits - 8 * (4 - octets bits)) + 8 * (4 - octets bits) = omega arith in
    let clear : address % 2 ^ (8 * (4 - octets bits)) ≡ 0 =
    clear_below address (32 - bits - 8 * (4 - octets bits)) (8 * (4 - octets bits)) (ap (λ (k : ℕ). address % 2 ^ k) (sym split) ∙ p.clear) in
    address_again (octets bits) address p.fits (omega arith) clear

pub length-prefix_octets : (prefix : AddressBlock) → prefix.length ≤ 32 → length (prefix_octets prefix) ≡ octets prefix.length
length-prefix_octets prefix short = length-take-le (octets prefix.length) (big_bytes 4 prefix.address) (omega arith)
