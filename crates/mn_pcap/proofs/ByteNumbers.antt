-- Numbers in either byte order.
use Rattle.std.proofs.Common.{◌≡◌, ◌≤◌, ◌+◌, ◌==◌, ℕ, Bool, true, false, List, ◌++◌, length, take, drop, ap, ◌∙◌, ◌-◌, length-drop, arith}
use Rattle.std.proofs.lemmas.Bool.Decides.{nat_tests}
use Rattle.std.proofs.lemmas.List.{drop-append-le, drop-take}
use Rattle.byteorder.specs.Numbers.{big_from-take, little_from-take, big_from-append, little_from-append}
use Rattle.mn_pcap.specs.Grammar.{number, IsBytes, is_magic}
use Rattle.mn_pcap.specs.Reading.{pcapng}

pub number-take : (big : Bool) (n m : ℕ) (xs : List ℕ) → n ≤ m → number big n (take m xs) ≡ number big n xs
unfolding number
number-take true n m xs h = big_from-take 0 n m xs (omega arith)
number-take false n m xs h = little_from-take 0 n m xs (omega arith)

pub number-append : (big : Bool) (n : ℕ) (xs ys : List ℕ) → n ≤ length xs → number big n (xs ++ ys) ≡ number big n xs
unfolding number
number-append true n xs ys h = big_from-append n xs ys h
number-append false n xs ys h = little_from-append n xs ys h

-- no four bytes are a known magic in both orders, nor one and the beginning of a pcapng file
pub one_order : (bytes : List ℕ) → IsBytes bytes → is_magic (number false 4 bytes) ≡ true →
    (is_magic (number true 4 bytes) ≡ false) × ((number true 4 bytes == pcapng) ≡ false)
unfolding number
one_order bytes fits h =
    let a = fits.below 0 in
    let b = fits.below 1 in
    let c = fits.below 2 in
    let d = fits.below 3 in
    (grind (arith, nat_tests), grind (arith, nat_tests))

pub not_pcapng : (n : ℕ) → is_magic n ≡ true → (n == pcapng) ≡ false
not_pcapng n h = grind (arith, nat_tests)

-- a field of a header is the same in what begins with the header
pub number-field : (big : Bool) (n at : ℕ) (header body : List ℕ) → at + n ≤ length header →
    number big n (drop at (header ++ body)) ≡ number big n (drop at header)
number-field big n at header body h =
    ap (λ (xs : List ℕ). number big n xs) (drop-append-le at header body (omega arith))
    ∙ number-append big n (drop at header) body (simp length-drop (omega arith))

-- and in as many bytes of it as the header has
pub number-front : (big : Bool) (n at size : ℕ) (xs : List ℕ) → at + n ≤ size → number big n (drop at (take size xs)) ≡ number big n (drop at xs)
number-front big n at size xs h =
    let split : size ≡ at + (size - at) = omega arith in
    ap (λ (m : ℕ). number big n (drop at (take m xs))) split
    ∙ ap (λ (ys : List ℕ). number big n ys) (drop-take at (size - at) xs)
    ∙ number-take big n (size - at) (drop at xs) (omega arith)
