-- The header of a message, as it is read and as it is spelled.
use Rattle.std.proofs.Common.{◌≡◌, ◌≤◌, ◌<◌, ◌+◌, ◌-◌, ◌==◌, ◌&&◌, not, ℕ, Bool, true, false, List, [], ◌∷◌, ◌++◌, length, take, drop, replicate, Ok, Err}
use Rattle.std.proofs.Common.{refl, ap, sym, ◌∙◌, subst, arith, length-drop}
use Rattle.std.specs.Prelude.{nat_lt, nat_le, slice_index}
use Rattle.std.specs.List.{list_all}
use Rattle.std.proofs.lemmas.Bool.{eqb-true, eq-eqb, ltb-false}
use Rattle.std.proofs.lemmas.Bool.Decides.{nat_tests}
use Rattle.std.proofs.lemmas.List.{take-append-drop, length-take, drop-drop, get_or-drop, drop-take, take-take}
use Rattle.byteorder.specs.Endian.{big_number, big_bytes}
use Rattle.byteorder.specs.Numbers.{big_from-take}
use Rattle.mn_vpn_nlri.specs.Reading.{IsBytes}
use Rattle.mn_bgp_wire.specs.Grammar.{marker, greatest_length, message_bytes}
use Rattle.mn_bgp_wire.specs.Reading.{first_refusal, unless, header_of, is_marked, length_of, kind_at, body_of, allows, is_kind}
use Rattle.mn_bgp_wire.specs.declared.refusal.BgpWireBad.TheVariants.{Short, BadMarker, BadLength, BadType}
use Rattle.mn_bgp_wire.proofs.Bytes.{number_back, two_of}
use Rattle.mn_bgp_wire.proofs.Results.{not_false, and_true}

pub header_again : (kind : ℕ) (body : List ℕ) → is_kind kind ≡ true → allows kind (19 + length body) ≡ true → 19 + length body ≤ greatest_length →
    header_of (message_bytes kind body) ≡ Ok kind
unfolding header_of
header_again kind body known allowed within =
    let bytes = message_bytes kind body in
    let size : length bytes ≡ 19 + length body = omega arith in
    let short : nat_lt (length bytes) 19 ≡ false = grind (arith, nat_tests) in
    let len : (length_of bytes == length bytes) ≡ true = eq-eqb _ _ (number_back 2 (19 + length body) (kind ∷ body) (omega arith) ∙ sym size) in
    let most : nat_le (length bytes) 4096 ≡ true = grind (arith, nat_tests) in
    let allow : allows kind (length bytes) ≡ true = ap (allows kind) size ∙ allowed in
    rw (short, len, most, allow, known) refl

-- what a header that is read says
pub record IsHeaded (bytes : List ℕ) (kind : ℕ) : Type 0 where
  pub long : 19 ≤ length bytes
  pub within : length bytes ≤ greatest_length
  pub allowed : allows kind (length bytes) ≡ true
  pub known : is_kind kind ≡ true
  pub whole : bytes ≡ message_bytes kind (body_of bytes)

rules_pass : (a b c d : Bool) (x y : ℕ) → unless (first_refusal ((a, Short) ∷ (b, BadMarker) ∷ (c, BadLength) ∷ (d, BadType) ∷ [])) x ≡ Ok y →
    (a ≡ false) × (b ≡ false) × (c ≡ false) × (d ≡ false) × (x ≡ y)
rules_pass true b c d x y e = absurd cc
rules_pass false true c d x y e = absurd cc
rules_pass false false true d x y e = absurd cc
rules_pass false false false true x y e = absurd cc
rules_pass false false false false x y e = (refl, refl, refl, refl, cc)

all_ones : (xs : List ℕ) → list_all (λ (byte : ℕ). byte == 255) xs ≡ true → xs ≡ replicate (length xs) 255
all_ones [] h = refl
all_ones (x ∷ xs) h =
    let t = and_true (x == 255) (list_all (λ (byte : ℕ). byte == 255) xs) h in
    let first : x ≡ 255 = eqb-true _ _ t.0 in
    ap (λ (n : ℕ). n ∷ xs) first ∙ ap (λ (ys : List ℕ). 255 ∷ ys) (all_ones xs t.1)

three_of : (xs : List ℕ) → 3 ≤ length xs → xs ≡ slice_index xs 0 ∷ slice_index xs 1 ∷ slice_index xs 2 ∷ drop 3 xs
three_of (a ∷ b ∷ c ∷ rest) h = refl
three_of _ h = absurd (omega arith)

headed : (bytes : List ℕ) → IsBytes bytes → 19 ≤ length bytes → is_marked bytes ≡ true → length_of bytes ≡ length bytes →
    bytes ≡ message_bytes (kind_at bytes) (body_of bytes)
headed bytes fits long marked len =
    let behind = drop 16 bytes in
    let left : length behind ≡ length bytes - 16 = length-drop 16 bytes in
    let sixteen : length (take 16 bytes) ≡ 16 = omega (arith, length-take 16 bytes) in
    let front : take 16 bytes ≡ marker = all_ones (take 16 bytes) marked ∙ ap (λ (n : ℕ). replicate n 255) sixteen in
    let high : slice_index behind 0 ≡ slice_index bytes 16 = get_or-drop 16 bytes 0 0 in
    let low : slice_index behind 1 ≡ slice_index bytes 17 = get_or-drop 16 bytes 1 0 in
    let kind : slice_index behind 2 ≡ slice_index bytes 18 = get_or-drop 16 bytes 2 0 in
    let rest : drop 3 behind ≡ body_of bytes = drop-drop 3 16 bytes in
    let high_fits = fits.below 16 in
    let low_fits = fits.below 17 in
    let parts = three_of behind (omega arith) in
    let rest_len : 19 + length (body_of bytes) ≡ length bytes = omega (arith, length-drop 19 bytes) in
    let two : big_bytes 2 (19 + length (body_of bytes)) ≡ slice_index behind 0 ∷ slice_index behind 1 ∷ [] =
    ap (big_bytes 2) (rest_len ∙ sym len ∙ ap (big_number 2) parts)
    ∙ two_of (slice_index behind 0) (slice_index behind 1) (slice_index behind 2 ∷ drop 3 behind) (omega arith) (omega arith) in
    sym (take-append-drop 16 bytes) ∙ ap (λ (xs : List ℕ). xs ++ behind) front ∙ ap (λ (xs : List ℕ). marker ++ xs) parts
    ∙ ap (λ (xs : List ℕ). marker ++ xs ++ slice_index behind 2 ∷ drop 3 behind) (sym two)
    ∙ ap (λ (n : ℕ). marker ++ big_bytes 2 (19 + length (body_of bytes)) ++ n ∷ drop 3 behind) kind
    ∙ ap (λ (xs : List ℕ). marker ++ big_bytes 2 (19 + length (body_of bytes)) ++ kind_at bytes ∷ xs) rest

pub header_take : (bytes : List ℕ) (kind : ℕ) → IsBytes bytes → header_of bytes ≡ Ok kind → IsHeaded bytes kind
unfolding header_of
header_take bytes kind fits e =
    let size = length bytes in
    let r = rules_pass (nat_lt size 19) (not (is_marked bytes)) (not (length_of bytes == size && nat_le size 4096 && allows (kind_at bytes) size))
    (not (is_kind (kind_at bytes))) (kind_at bytes) kind e in
    let long : 19 ≤ size = ltb-false _ _ r.0 in
    let t = and_true (length_of bytes == size && nat_le size 4096) (allows (kind_at bytes) size) (not_false _ r.2) in
    let u = and_true (length_of bytes == size) (nat_le size 4096) t.0 in
    let most = u.1 in
    let rec_ : IsHeaded bytes (kind_at bytes) = record {
      long = long;
      within = grind (arith, nat_tests);
      allowed = t.1;
      known = not_false _ r.3;
      whole = headed bytes fits long (not_false _ r.1) (eqb-true _ _ u.0);
    } in
    subst (λ (k : ℕ). IsHeaded bytes k) r.4 rec_

-- A message that is cut short.

cut_before : (bytes : List ℕ) → length bytes < 19 → header_of bytes ≡ Err Short
unfolding header_of
cut_before bytes lt = let short : nat_lt (length bytes) 19 ≡ true = grind (arith, nat_tests) in rw short refl

cut_behind : (bytes : List ℕ) → 19 ≤ length bytes → is_marked bytes ≡ true → (length_of bytes == length bytes) ≡ false → header_of bytes ≡ Err BadLength
unfolding header_of
cut_behind bytes long marked len = let short : nat_lt (length bytes) 19 ≡ false = grind (arith, nat_tests) in rw (short, marked, len) refl

ne_eqb : (a b size n : ℕ) → a ≡ size → b ≡ n → n < size → (a == b) ≡ false
ne_eqb a b size n p q lt = grind (arith, nat_tests)

pub short_front : (bytes : List ℕ) (n : ℕ) → n < 19 → header_of (take n bytes) ≡ Err Short
short_front bytes n lt = cut_before (take n bytes) (omega (arith, length-take n bytes))

pub long_front : (kind : ℕ) (body : List ℕ) (n : ℕ) → 19 + length body ≤ greatest_length → 19 ≤ n → n < length (message_bytes kind body) →
    header_of (take n (message_bytes kind body)) ≡ Err BadLength
long_front kind body n within long lt =
    let bytes = message_bytes kind body in
    let size : length bytes ≡ 19 + length body = omega arith in
    let len : length (take n bytes) ≡ n = omega (arith, length-take n bytes) in
    let split : n ≡ 16 + (n - 16) = omega arith in
    let marked : is_marked (take n bytes) ≡ true = ap (λ (xs : List ℕ). list_all (λ (byte : ℕ). byte == 255) xs) (take-take 16 n bytes (omega arith)) in
    let number : length_of (take n bytes) ≡ length bytes =
    ap (λ (m : ℕ). big_number 2 (drop 16 (take m bytes))) split ∙ ap (big_number 2) (drop-take 16 (n - 16) bytes)
    ∙ big_from-take 0 2 (n - 16) (drop 16 bytes) (omega arith)
    ∙ number_back 2 (19 + length body) (kind ∷ body) (omega arith) ∙ sym size in
    let other : (length_of (take n bytes) == length (take n bytes)) ≡ false =
    ne_eqb (length_of (take n bytes)) (length (take n bytes)) (length bytes) n number len lt in
    cut_behind (take n bytes) (omega arith) marked other
