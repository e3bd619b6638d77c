-- What a one's complement sum of words is in ordinary numbers.
use Rattle.std.proofs.Common.{◌≡◌, ℕ, ◌+◌, ◌*◌, ◌/◌, ◌%◌, ◌^◌, ◌<◌, ◌≤◌, List, [], ◌∷◌, length, get_or, set, drop, refl, arith, suc}
use Rattle.mn_ipv4.specs.Checksum.{words, ones_complement_add, ones_complement_sum}

-- `s` stands for `n` in sixteen bits: they differ by a multiple of 65535, and only 0 is written as 0
pub record StandsFor (s n : ℕ) : Type 0 where
  pub turns : ℕ
  pub differs : n ≡ s + 65535 * turns
  pub fits : s ≤ 65535
  pub zero_only : s ≡ 0 → n ≡ 0

-- a number has one such form
pub same_form : {s t n : ℕ} → StandsFor s n → StandsFor t n → s ≡ t
same_form {s} {t} {n} a b =
    let sn : n ≡ s + 65535 * a.turns = a.differs in
    let tn : n ≡ t + 65535 * b.turns = b.differs in
    let sf : s ≤ 65535 = a.fits in
    let tf : t ≤ 65535 = b.fits in
    let sz : s ≡ 0 → n ≡ 0 = a.zero_only in
    let tz : t ≡ 0 → n ≡ 0 = b.zero_only in
    grind arith

-- one more word
pub stands-add : (w s n : ℕ) → w ≤ 65535 → StandsFor s n → StandsFor (ones_complement_add w s) (w + n)
stands-add w s n h a =
    let sn : n ≡ s + 65535 * a.turns = a.differs in
    let sf : s ≤ 65535 = a.fits in
    let sz : s ≡ 0 → n ≡ 0 = a.zero_only in
    record {
      turns = a.turns + (w + s) / 65536;
      differs = omega arith;
      fits = omega arith;
      zero_only = λ z. omega arith;
    }

-- the carries added twice
pub stands-carried : {n m once twice : ℕ} → n ≡ m → n < 2 ^ 32 → once ≡ n % 65536 + n / 65536 → twice ≡ once % 65536 + once / 65536 →
    StandsFor twice m
stands-carried {n} {m} {once} {twice} same bound first second = record {
  turns = n / 65536 + once / 65536;
  differs = omega arith;
  fits = omega arith;
  zero_only = λ z. omega arith;
}

-- each is a byte
abbrev pub IsBytes : List ℕ → Type 0
IsBytes bs = (i : ℕ) → get_or bs i 0 < 256

-- the ordinary sum
abbrev pub total : List ℕ → ℕ
total [] = 0
total (x ∷ xs) = x + total xs

-- the sum of the words of bytes, in sixteen bits
pub stands-words : (bs : List ℕ) → IsBytes bs → StandsFor (ones_complement_sum (words bs)) (total (words bs))
stands-words [] h = record { turns = 0; differs = refl; fits = omega arith; zero_only = λ z. refl }
stands-words (x ∷ []) h =
    let hx : x < 256 = h 0 in
    stands-add (256 * x) 0 0 (omega arith) (record { turns = 0; differs = refl; fits = omega arith; zero_only = λ z. refl })
stands-words (x ∷ y ∷ rest) h =
    let hx : x < 256 = h 0 in
    let hy : y < 256 = h 1 in
    stands-add (256 * x + y) (ones_complement_sum (words rest)) (total (words rest)) (omega arith) (stands-words rest (λ i. h (suc (suc i))))

-- a bound by the number of bytes
pub total-words-le : (bs : List ℕ) → IsBytes bs → 2 * total (words bs) ≤ 65535 * length bs + 65535
total-words-le [] h = omega arith
total-words-le (x ∷ []) h =
    let hx : x < 256 = h 0 in
    omega arith
total-words-le (x ∷ y ∷ rest) h =
    let hx : x < 256 = h 0 in
    let hy : y < 256 = h 1 in
    let more : 2 * total (words rest) ≤ 65535 * length rest + 65535 = total-words-le rest (λ i. h (suc (suc i))) in
    omega arith

-- the first word and the rest
pub total-words : (bs : List ℕ) → 2 ≤ length bs → total (words bs) ≡ get_or bs 0 0 * 256 + get_or bs 1 0 + total (words (drop 2 bs))
total-words [] h = absurd (omega arith)
total-words (x ∷ []) h = absurd (omega arith)
total-words (x ∷ y ∷ rest) h = omega arith

-- no word is left
pub total-words-none : (bs : List ℕ) → length bs < 2 → length bs % 2 ≡ 0 → total (words bs) ≡ 0
total-words-none [] h e = refl
total-words-none (x ∷ []) h e = absurd (omega arith)
total-words-none (x ∷ y ∷ rest) h e = absurd (omega arith)

-- the sixth word, where it is set
pub total-words-field : (bs : List ℕ) (high low : ℕ) → 12 ≤ length bs →
    total (words (set (set bs 10 high) 11 low)) ≡ total (words (set (set bs 10 0) 11 0)) + (256 * high + low)
total-words-field (a ∷ b ∷ c ∷ d ∷ e ∷ f ∷ g ∷ h ∷ i ∷ j ∷ k ∷ l ∷ rest) high low le = omega arith
total-words-field _ high low le = absurd (omega arith)
