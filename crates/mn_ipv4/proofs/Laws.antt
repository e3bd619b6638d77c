-- Laws of the header's definitions, for the proofs of this crate and of the crates above it.
use Rattle.std.proofs.Common.{◌≡◌, ◌≢◌, ℕ, ◌+◌, ◌-◌, ◌*◌, ◌/◌, ◌%◌, ◌<◌, ◌≤◌, IsTrue, List, [], ◌∷◌, length, take, get_or, set, None, refl, sym, ap, ◌∙◌}
use Rattle.std.proofs.Common.{arith, suc, zero}
use Rattle.std.proofs.lemmas.List.{length-set, length-take, get_or-set_other, get_or-take, take-take, take_all}
use Rattle.mn_ipv4.specs.Checksum.{words, ones_complement_sum}
use Rattle.mn_ipv4.specs.Header.{version_of, header_words, header_length, total_length, ttl_of, destination_of, header_bytes, is_not_ipv4, is_malformed}
use Rattle.mn_ipv4.specs.Header.{is_truncated, has_bad_checksum, good, with_checksum, checksum_for, with_ttl, aged}
use Rattle.mn_ipv4.specs.Check.{fault_of}
use Rattle.mn_ipv4.proofs.Sum.{IsBytes, StandsFor, same_form, stands-words, total, total-words-field}

-- a good packet, rule by rule
pub record IsGood (b : List ℕ) : Type 0 where
  pub version : version_of b ≡ 4
  pub least_header : 5 ≤ header_words b
  pub header_in_total : header_length b ≤ total_length b
  pub total_there : total_length b ≤ length b
  pub sum : ones_complement_sum (words (header_bytes b)) ≡ 65535

pub IsGood-from_good : (b : List ℕ) → IsTrue (good b) → IsGood b
unfolding good is_not_ipv4 is_malformed is_truncated has_bad_checksum
IsGood-from_good b h = record {
  version = grind arith;
  least_header = grind arith;
  header_in_total = grind arith;
  total_there = grind arith;
  sum = grind arith;
}

pub good-from_IsGood : (b : List ℕ) → IsGood b → IsTrue (good b)
unfolding good is_not_ipv4 is_malformed is_truncated has_bad_checksum
good-from_IsGood b g = grind arith

-- bytes, with one set or cut off

pub IsBytes-set : (bs : List ℕ) (i x : ℕ) → IsBytes bs → x < 256 → IsBytes (set bs i x)
IsBytes-set [] i x h hx j = h j
IsBytes-set (y ∷ ys) zero x h hx zero = hx
IsBytes-set (y ∷ ys) zero x h hx (suc j) = h (suc j)
IsBytes-set (y ∷ ys) (suc i) x h hx zero = h zero
IsBytes-set (y ∷ ys) (suc i) x h hx (suc j) = IsBytes-set ys i x (λ k. h (suc k)) hx j

pub IsBytes-take : (n : ℕ) (bs : List ℕ) → IsBytes bs → IsBytes (take n bs)
IsBytes-take zero bs h j = omega arith
IsBytes-take (suc n) [] h j = h j
IsBytes-take (suc n) (y ∷ ys) h zero = h zero
IsBytes-take (suc n) (y ∷ ys) h (suc j) = IsBytes-take n ys (λ k. h (suc k)) j

pub take-set : (n : ℕ) (bs : List ℕ) (i x : ℕ) → take n (set bs i x) ≡ set (take n bs) i x
take-set zero bs i x = refl
take-set (suc n) [] i x = refl
take-set (suc n) (y ∷ ys) zero x = refl
take-set (suc n) (y ∷ ys) (suc i) x = ap (λ zs. y ∷ zs) (take-set n ys i x)

-- the checksum field

pub header_length-with_checksum : (b : List ℕ) (c : ℕ) → header_length (with_checksum b c) ≡ header_length b
header_length-with_checksum [] c = refl
header_length-with_checksum (x ∷ rest) c = refl

pub take-with_checksum : (n : ℕ) (b : List ℕ) (c : ℕ) → take n (with_checksum b c) ≡ with_checksum (take n b) c
take-with_checksum n b c = simp take-set

pub header_bytes-with_checksum : (b : List ℕ) (c : ℕ) → header_bytes (with_checksum b c) ≡ with_checksum (header_bytes b) c
header_bytes-with_checksum b c = rw (header_length-with_checksum b c) (take-with_checksum (header_length b) b c)

-- the later writing of the field counts
pub with_checksum-rewritten : (b : List ℕ) (t u c d : ℕ) → with_checksum (set (with_checksum (set b 8 t) c) 8 u) d ≡ with_checksum (set b 8 u) d
with_checksum-rewritten (p ∷ q ∷ r ∷ s ∷ e ∷ f ∷ g ∷ h ∷ i ∷ j ∷ k ∷ l ∷ rest) t u c d = refl
with_checksum-rewritten _ t u c d = refl

pub with_checksum-with_checksum : (b : List ℕ) (c d : ℕ) → with_checksum (with_checksum b c) d ≡ with_checksum b d
with_checksum-with_checksum (p ∷ q ∷ r ∷ s ∷ e ∷ f ∷ g ∷ h ∷ i ∷ j ∷ k ∷ l ∷ rest) c d = refl
with_checksum-with_checksum _ c d = refl

pub IsBytes-with_checksum : (b : List ℕ) (c : ℕ) → IsBytes b → c ≤ 65535 → IsBytes (with_checksum b c)
IsBytes-with_checksum b c bytes h =
    IsBytes-set (set b 10 (c / 256)) 11 (c % 256) (IsBytes-set b 10 (c / 256) bytes (omega arith)) (omega arith)

-- a checksum made anew is right
pub sum-checksum_for : (b : List ℕ) → IsBytes b → 12 ≤ length b → 3 ≤ header_words b →
    ones_complement_sum (words (header_bytes (with_checksum b (checksum_for b)))) ≡ 65535
unfolding checksum_for
sum-checksum_for b bytes long header =
    let s = ones_complement_sum (words (header_bytes (with_checksum b 0))) in
    let front : List ℕ = header_bytes b in
    let front_bytes : IsBytes front = IsBytes-take (header_length b) b bytes in
    let front_long : 12 ≤ length front = omega (arith, length-take (header_length b) b) in
    let zeroed : header_bytes (with_checksum b 0) ≡ with_checksum front 0 = header_bytes-with_checksum b 0 in
    let without : StandsFor s (total (words (with_checksum front 0))) =
    rw zeroed (stands-words (with_checksum front 0) (IsBytes-with_checksum front 0 front_bytes (omega arith))) in
    let differs : total (words (with_checksum front 0)) ≡ s + 65535 * without.turns = without.differs in
    let fits : s ≤ 65535 = without.fits in
    let field : total (words (with_checksum front (65535 - s))) ≡
    total (words (with_checksum front 0)) + (256 * ((65535 - s) / 256) + (65535 - s) % 256) =
    total-words-field front ((65535 - s) / 256) ((65535 - s) % 256) front_long in
    let whole : StandsFor 65535 (total (words (with_checksum front (65535 - s)))) =
    record { turns = without.turns; differs = omega arith; fits = omega arith; zero_only = λ z. absurd (omega arith) } in
    let formed = stands-words (with_checksum front (65535 - s)) (IsBytes-with_checksum front (65535 - s) front_bytes (omega arith)) in
    rw (header_bytes-with_checksum b (65535 - s)) (same_form formed whole)

-- the packet with a TTL and a checksum

pub length-with_ttl : (b : List ℕ) (t : ℕ) → length (with_ttl b t) ≡ length b
unfolding with_ttl
length-with_ttl b t = simp length-set

-- only the TTL and the checksum change
pub get_or-with_ttl : (b : List ℕ) (t i : ℕ) → i ≢ 8 → i ≢ 10 → i ≢ 11 → get_or (with_ttl b t) i 0 ≡ get_or b i 0
unfolding with_ttl
get_or-with_ttl b t i not_ttl not_high not_low =
    let changed = set b 8 t in
    let c = checksum_for changed in
    get_or-set_other (set changed 10 (c / 256)) 11 i (c % 256) 0 not_low
    ∙ get_or-set_other changed 10 i (c / 256) 0 not_high
    ∙ get_or-set_other b 8 i t 0 not_ttl

pub ttl_of-with_ttl : (b : List ℕ) (t : ℕ) → 8 < length b → ttl_of (with_ttl b t) ≡ t
unfolding with_ttl
ttl_of-with_ttl (p ∷ q ∷ r ∷ s ∷ e ∷ f ∷ g ∷ h ∷ i ∷ rest) t long = refl
ttl_of-with_ttl _ t long = absurd (omega arith)

-- the later TTL counts
pub with_ttl-with_ttl : (b : List ℕ) (t u : ℕ) → with_ttl (with_ttl b t) u ≡ with_ttl b u
unfolding with_ttl checksum_for
with_ttl-with_ttl b t u =
    let c = checksum_for (set b 8 t) in
    let same : checksum_for (set (with_checksum (set b 8 t) c) 8 u) ≡ checksum_for (set b 8 u) =
    ap (λ x. 65535 - ones_complement_sum (words (header_bytes x))) (with_checksum-rewritten b t u c 0) in
    rw same (with_checksum-rewritten b t u c (checksum_for (set b 8 u)))

pub header_words-set_ttl : (b : List ℕ) (t : ℕ) → header_words (set b 8 t) ≡ header_words b
header_words-set_ttl b t = ap (λ x. x % 16) (get_or-set_other b 8 0 t 0 (omega arith))

pub sum-with_ttl : (b : List ℕ) (t : ℕ) → IsBytes b → t < 256 → 12 ≤ length b → 3 ≤ header_words b →
    ones_complement_sum (words (header_bytes (with_ttl b t))) ≡ 65535
unfolding with_ttl
sum-with_ttl b t bytes small long header =
    let same : header_words (set b 8 t) ≡ header_words b = header_words-set_ttl b t in
    sum-checksum_for (set b 8 t) (IsBytes-set b 8 t bytes small) (omega (arith, length-set b 8 t)) (omega arith)

pub IsBytes-with_ttl : (b : List ℕ) (t : ℕ) → IsBytes b → t < 256 → IsBytes (with_ttl b t)
unfolding with_ttl checksum_for
IsBytes-with_ttl b t bytes small =
    let changed = set b 8 t in
    IsBytes-with_checksum changed (checksum_for changed) (IsBytes-set b 8 t bytes small) (omega arith)

-- a packet that is cut behind its header

pub header_bytes-take : (n : ℕ) (b : List ℕ) → 0 < n → header_length b ≤ n → header_bytes (take n b) ≡ header_bytes b
header_bytes-take n b positive behind =
    let same : header_length (take n b) ≡ header_length b = ap (λ x. 4 * (x % 16)) (get_or-take n b 0 0 positive) in
    rw same (take-take (header_length b) n b behind)

pub checksum_for-take : (n : ℕ) (b : List ℕ) → 0 < n → header_length b ≤ n → checksum_for (take n b) ≡ checksum_for b
unfolding checksum_for
checksum_for-take n b positive behind =
    ap (λ x. 65535 - ones_complement_sum (words x))
    (header_bytes-with_checksum (take n b) 0
    ∙ ap (λ x. with_checksum x 0) (header_bytes-take n b positive behind)
    ∙ sym (header_bytes-with_checksum b 0))

pub take-with_ttl : (n : ℕ) (b : List ℕ) (t : ℕ) → 0 < n → header_length b ≤ n → take n (with_ttl b t) ≡ with_ttl (take n b) t
unfolding with_ttl
take-with_ttl n b t positive behind =
    let changed = set b 8 t in
    let same : header_words changed ≡ header_words b = header_words-set_ttl b t in
    take-with_checksum n changed (checksum_for changed)
    ∙ ap (λ c. with_checksum (take n changed) c) (sym (checksum_for-take n changed positive (omega arith)))
    ∙ ap (λ x. with_checksum x (checksum_for x)) (take-set n b 8 t)

-- good packets stay good

pub IsGood-with_ttl : (b : List ℕ) (t : ℕ) → IsBytes (with_ttl b t) → IsGood b → IsGood (with_ttl b t)
IsGood-with_ttl b t bytes g =
    let new = with_ttl b t in
    let first : get_or new 0 0 ≡ get_or b 0 0 = get_or-with_ttl b t 0 (omega arith) (omega arith) (omega arith) in
    let third : get_or new 2 0 ≡ get_or b 2 0 = get_or-with_ttl b t 2 (omega arith) (omega arith) (omega arith) in
    let fourth : get_or new 3 0 ≡ get_or b 3 0 = get_or-with_ttl b t 3 (omega arith) (omega arith) (omega arith) in
    let long = length-with_ttl b t in
    let least_header : 5 ≤ header_words new = rw first g.least_header in
    let there : get_or new 8 0 ≡ t = ttl_of-with_ttl b t (omega arith) in
    let small : t < 256 = rw there at (bytes 8) in
    let again : with_ttl new t ≡ new = with_ttl-with_ttl b t t in
    let sum : ones_complement_sum (words (header_bytes (with_ttl new t))) ≡ 65535 = sum-with_ttl new t bytes small (omega arith) (omega arith) in
    record {
      version = rw first g.version;
      least_header = least_header;
      header_in_total = rw (first, third, fourth) g.header_in_total;
      total_there = rw (third, fourth, long) g.total_there;
      sum = rw again at sum;
    }

pub IsGood-take : (b : List ℕ) → IsGood b → IsGood (take (total_length b) b)
IsGood-take b g =
    let n = total_length b in
    let first : get_or (take n b) 0 0 ≡ get_or b 0 0 = get_or-take n b 0 0 (omega arith) in
    let third : get_or (take n b) 2 0 ≡ get_or b 2 0 = get_or-take n b 2 0 (omega arith) in
    let fourth : get_or (take n b) 3 0 ≡ get_or b 3 0 = get_or-take n b 3 0 (omega arith) in
    let long = length-take n b in
    record {
      version = rw first g.version;
      least_header = rw first g.least_header;
      header_in_total = rw (first, third, fourth) g.header_in_total;
      total_there = rw (third, fourth) (omega arith);
      sum = rw (header_bytes-take n b (omega arith) g.header_in_total) g.sum;
    }

-- what is aged

pub with_ttl-is_aged : (b : List ℕ) (t : ℕ) → IsGood b → t ≤ ttl_of b → take (total_length b) (with_ttl b t) ≡ aged b (ttl_of b - t)
unfolding aged
with_ttl-is_aged b t g h =
    let same : ttl_of b - (ttl_of b - t) ≡ t = omega arith in
    rw same (take-with_ttl (total_length b) b t (omega arith) g.header_in_total)

pub aged-is : (b : List ℕ) (n : ℕ) → IsGood b → take (total_length b) (with_ttl b (ttl_of b - n)) ≡ aged b n
unfolding aged
aged-is b n g = take-with_ttl (total_length b) b (ttl_of b - n) (omega arith) g.header_in_total

pub length-aged : (b : List ℕ) (n : ℕ) → IsGood b → length (aged b n) ≡ total_length b
unfolding aged
length-aged b n g = omega (arith, length-with_ttl (take (total_length b) b) (ttl_of b - n), length-take (total_length b) b)

pub ttl_of-aged : (b : List ℕ) (n : ℕ) → IsGood b → ttl_of (aged b n) ≡ ttl_of b - n
unfolding aged
ttl_of-aged b n g = ttl_of-with_ttl (take (total_length b) b) (ttl_of b - n) (omega (arith, length-take (total_length b) b))

-- every byte but the TTL and the checksum
pub get_or-aged : (b : List ℕ) (n i : ℕ) → i ≢ 8 → i ≢ 10 → i ≢ 11 → i < total_length b → get_or (aged b n) i 0 ≡ get_or b i 0
unfolding aged
get_or-aged b n i not_ttl not_high not_low within =
    get_or-with_ttl (take (total_length b) b) (ttl_of b - n) i not_ttl not_high not_low
    ∙ get_or-take (total_length b) b i 0 within

pub total_length-aged : (b : List ℕ) (n : ℕ) → IsGood b → total_length (aged b n) ≡ total_length b
total_length-aged b n g =
    let third = get_or-aged b n 2 (omega arith) (omega arith) (omega arith) (omega arith) in
    let fourth = get_or-aged b n 3 (omega arith) (omega arith) (omega arith) (omega arith) in
    omega arith

pub destination_of-aged : (b : List ℕ) (n : ℕ) → IsGood b → destination_of (aged b n) ≡ destination_of b
destination_of-aged b n g =
    let a = get_or-aged b n 16 (omega arith) (omega arith) (omega arith) (omega arith) in
    let c = get_or-aged b n 17 (omega arith) (omega arith) (omega arith) (omega arith) in
    let d = get_or-aged b n 18 (omega arith) (omega arith) (omega arith) (omega arith) in
    let e = get_or-aged b n 19 (omega arith) (omega arith) (omega arith) (omega arith) in
    omega arith

pub IsGood-aged : (b : List ℕ) (n : ℕ) → IsBytes b → IsGood b → IsGood (aged b n)
unfolding aged
IsGood-aged b n bytes g =
    let cut = take (total_length b) b in
    let small : ttl_of b < 256 = bytes 8 in
    IsGood-with_ttl cut (ttl_of b - n) (IsBytes-with_ttl cut (ttl_of b - n) (IsBytes-take (total_length b) b bytes) (omega arith)) (IsGood-take b g)

-- a TTL given to an aged packet
pub with_ttl-aged : (b : List ℕ) (n t : ℕ) → t ≤ ttl_of b → with_ttl (aged b n) t ≡ aged b (ttl_of b - t)
unfolding aged
with_ttl-aged b n t h =
    let same : ttl_of b - (ttl_of b - t) ≡ t = omega arith in
    rw same (with_ttl-with_ttl (take (total_length b) b) (ttl_of b - n) t)

-- aged twice
pub aged-aged : (b : List ℕ) (m n : ℕ) → IsGood b → aged (aged b m) n ≡ aged b (m + n)
unfolding aged
aged-aged b m n g =
    let once = with_ttl (take (total_length b) b) (ttl_of b - m) in
    let whole : take (total_length once) once ≡ once = take_all (total_length once) once (omega (arith, length-aged b m g, total_length-aged b m g)) in
    let lower : ttl_of once - n ≡ ttl_of b - (m + n) = omega (arith, ttl_of-aged b m g) in
    ap (λ x. with_ttl x (ttl_of once - n)) whole
    ∙ ap (λ t. with_ttl once t) lower
    ∙ with_ttl-with_ttl (take (total_length b) b) (ttl_of b - m) (ttl_of b - (m + n))

pub good-aged : (b : List ℕ) (n : ℕ) → IsBytes b → IsTrue (good b) → IsTrue (good (aged b n))
good-aged b n bytes h = good-from_IsGood (aged b n) (IsGood-aged b n bytes (IsGood-from_good b h))

-- a packet with nothing behind it
pub aged-whole : (b : List ℕ) (n : ℕ) → length b ≡ total_length b → aged b n ≡ with_ttl b (ttl_of b - n)
unfolding aged
aged-whole b n e = ap (λ x. with_ttl x (ttl_of b - n)) (take_all (total_length b) b (omega arith))

-- no fault is found in a good packet, and in no other

pub fault_of-good : (b : List ℕ) → IsTrue (good b) → fault_of b ≡ None
unfolding fault_of good
fault_of-good b h = grind arith

pub good-from_fault_of : (b : List ℕ) → fault_of b ≡ None → IsTrue (good b)
unfolding fault_of good
good-from_fault_of b e = grind arith
