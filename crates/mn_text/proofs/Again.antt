-- What is written is read again, and what is read is what is written.
use Rattle.std.proofs.Common.{◌≡◌, ◌≢◌, inl, inr, ℕ, zero, suc, Bool, true, false, not, ◌||◌, ◌==◌, nat_lt, ◌+◌, ◌*◌, ◌/◌, ◌%◌, ◌^◌, ◌<◌, ◌≤◌, List, []}
use Rattle.std.proofs.Common.{◌∷◌, ◌++◌, length, get_or, Some, None, Ok, refl, ap, lit<, arith, rules, length-append}
use Rattle.std.proofs.lemmas.Bool.Decides.{nat_tests, eqb_tells}
use Rattle.std.proofs.lemmas.Bool.{and_parts}
use Rattle.std.proofs.Math.Seq.{take-append_seam, drop-append-add}
use Rattle.std.proofs.lemmas.List.Folds.{list_all-append}
use Rattle.std.specs.List.{list_all, position_or_len}
use Rattle.std.specs.Char.{is_ascii_digit}
use Rattle.std.specs.Fmt.{decimal}
use Rattle.std.specs.Str.Parse.{digits_value}
use Rattle.std.proofs.lemmas.Str.Parse.{IsNumeralModel, numerals_by_value}
use Rattle.std.proofs.lemmas.Fmt.{digits_decimal, digits_value-decimal, first_decimal, decimal_digit, decimal_nonempty}
use Rattle.mn_base.proofs.Bools.{and_off_right}
use Rattle.mn_base.specs.Numbers.{has_rd_form, has_rt_form, type_field}
use Rattle.mn_base.specs.declared.numbers.Rd.{Rd}
use Rattle.mn_base.specs.declared.numbers.Rt.{Rt}
use Rattle.mn_prefix.specs.Prefix.{AddressBlock, IsPrefix}
use Rattle.mn_text.specs.Numbers.{begins_well, is_number, number_of, number_up_to, number_text}
use Rattle.mn_text.specs.Addresses.{cut, address_of, slashed_of, prefix_of, address_text, prefix_text}
use Rattle.mn_text.specs.Pairs.{pair_text, by_as_text, by_address_text, pair_of, rd_of, rd_text, rt_of, rt_text}

pub own : IsNumeralModel (λ ds. list_all is_ascii_digit ds ≡ true) (digits_value 10)
own = numerals_by_value _ (search rules)

digits-decimal : (n : ℕ) → n < 2 ^ 64 → list_all is_ascii_digit (decimal n) ≡ true
digits-decimal n h = digits_decimal own n h

value-decimal : (n : ℕ) → n < 2 ^ 64 → digits_value 10 (decimal n) ≡ n
value-decimal n h = digits_value-decimal own n h

begins : (w : List ℕ) → 0 < length w → (48 < get_or w 0 0) → begins_well w ≡ true
begins w h f = grind (arith, nat_tests)

begins-decimal : (n : ℕ) → n < 2 ^ 64 → begins_well (decimal n) ≡ true
begins-decimal zero h = rw (decimal_digit 0 (lit< tt)) refl
begins-decimal (suc n) h = begins (decimal (suc n)) (decimal_nonempty (suc n) h) (first_decimal (suc n) (omega arith) h)

is_number-decimal : (n : ℕ) → n < 2 ^ 64 → is_number (decimal n) ≡ true
is_number-decimal n h = rw (begins-decimal n h, digits-decimal n h) refl

pub number_again : (n most : ℕ) → n < 2 ^ 64 → n ≤ most → number_of (number_text n) most ≡ Ok n
number_again n most h l = rw (is_number-decimal n h, value-decimal n h) (grind (arith, nat_tests))

number_up_to_again : (n most : ℕ) → n < 2 ^ 64 → n ≤ most → number_up_to (decimal n) most ≡ Some n
number_up_to_again n most h l = rw (is_number-decimal n h, value-decimal n h) (grind (arith, nat_tests))

-- no byte of the text is this one
abbrev lacks : ℕ → List ℕ → Bool
lacks byte w = list_all (λ b. not (b == byte)) w

differs : (x byte : ℕ) → is_ascii_digit x ≡ true → is_ascii_digit byte ≡ false → not (x == byte) ≡ true
differs x byte digit other = grind (arith, nat_tests)

lacks_digits : (byte : ℕ) → is_ascii_digit byte ≡ false → (w : List ℕ) → list_all is_ascii_digit w ≡ true → lacks byte w ≡ true
lacks_digits byte other [] h = refl
lacks_digits byte other (x ∷ xs) h =
    let parts = and_parts (is_ascii_digit x) (list_all is_ascii_digit xs) h in
    rw (differs x byte parts.0 other, lacks_digits byte other xs parts.1) refl

past : (byte : ℕ) (w rest : List ℕ) → lacks byte w ≡ true → position_or_len (λ b. b == byte) (w ++ byte ∷ rest) ≡ length w
past byte [] rest h = grind (arith, nat_tests)
past byte (x ∷ xs) rest h =
    let parts = and_parts (not (x == byte)) (lacks byte xs) h in
    rw parts.0 (omega (arith, past byte xs rest parts.1))

within : (w v : List ℕ) (byte : ℕ) → nat_lt (length w) (length (w ++ byte ∷ v)) ≡ true
within w v byte = rw length-append (grind (arith, nat_tests))

cut_at : (byte : ℕ) (w rest : List ℕ) → lacks byte w ≡ true → cut byte (w ++ byte ∷ rest) ≡ Some (w, rest)
cut_at byte w rest h = rw (past byte w rest h, within w rest byte, take-append_seam w (byte ∷ rest), drop-append-add w (byte ∷ rest) 1) refl

lacks-decimal : (byte n : ℕ) → is_ascii_digit byte ≡ false → n < 2 ^ 64 → lacks byte (decimal n) ≡ true
lacks-decimal byte n other h = lacks_digits byte other (decimal n) (digits-decimal n h)

pub address_again : (a : ℕ) → a < 2 ^ 32 → address_of (address_text a) ≡ Some a
unfolding address_of address_text
address_again a h =
    rw (
      cut_at 46 (decimal (a / 256 / 256 / 256)) _ (lacks-decimal 46 (a / 256 / 256 / 256) refl (omega arith)),
      cut_at 46 (decimal (a / 256 / 256 % 256)) _ (lacks-decimal 46 (a / 256 / 256 % 256) refl (omega arith)),
      cut_at 46 (decimal (a / 256 % 256)) _ (lacks-decimal 46 (a / 256 % 256) refl (omega arith)),
      number_up_to_again (a / 256 / 256 / 256) 255 (omega arith) (omega arith),
      number_up_to_again (a / 256 / 256 % 256) 255 (omega arith) (omega arith),
      number_up_to_again (a / 256 % 256) 255 (omega arith) (omega arith),
      number_up_to_again (a % 256) 255 (omega arith) (omega arith),
    )
    (ap Some (omega arith))

lacks-append : (byte : ℕ) (v w : List ℕ) → lacks byte v ≡ true → lacks byte w ≡ true → lacks byte (v ++ w) ≡ true
lacks-append byte v w h k = rw (list_all-append (λ b. not (b == byte)) v w, h, k) refl

lacks_dot : (byte : ℕ) (w : List ℕ) → not (46 == byte) ≡ true → lacks byte w ≡ true → lacks byte (46 ∷ w) ≡ true
lacks_dot byte w dot h = rw (dot, h) refl

-- a byte that is neither a digit nor a dot isn't in an address
lacks-address : (byte a : ℕ) → is_ascii_digit byte ≡ false → not (46 == byte) ≡ true → a < 2 ^ 32 → lacks byte (address_text a) ≡ true
unfolding address_text
lacks-address byte a other dot h =
    lacks-append byte (decimal (a / 256 / 256 / 256)) _ (lacks-decimal byte (a / 256 / 256 / 256) other (omega arith))
    (lacks_dot byte _ dot (lacks-append byte (decimal (a / 256 / 256 % 256)) _ (lacks-decimal byte (a / 256 / 256 % 256) other (omega arith))
    (lacks_dot byte _ dot (lacks-append byte (decimal (a / 256 % 256)) _ (lacks-decimal byte (a / 256 % 256) other (omega arith))
    (lacks_dot byte _ dot (lacks-decimal byte (a % 256) other (omega arith)))))))

pub prefix_again : (p : AddressBlock) → IsPrefix p.address p.length → prefix_of (prefix_text p) ≡ Ok p
unfolding slashed_of prefix_text
prefix_again p h =
    rw (
      cut_at 47 (address_text p.address) _ (lacks-address 47 p.address refl refl h.fits),
      address_again p.address h.fits,
      number_up_to_again p.length 32 (omega (arith, h.short)) h.short,
      h.clear,
    ) refl

-- 2. Pairs

-- a text with a dot is no number
dotted_digits : (v w : List ℕ) → list_all is_ascii_digit (v ++ 46 ∷ w) ≡ false
dotted_digits [] w = refl
dotted_digits (x ∷ xs) w = and_off_right (is_ascii_digit x) _ (dotted_digits xs w)

dotted : (v w : List ℕ) (most : ℕ) → number_up_to (v ++ 46 ∷ w) most ≡ None
dotted v w most = rw (and_off_right (begins_well (v ++ 46 ∷ w)) _ (dotted_digits v w)) refl

address_no_number : (a most : ℕ) → number_up_to (address_text a) most ≡ None
unfolding address_text
address_no_number a most = dotted (decimal (a / 256 / 256 / 256)) _ most

-- the six bytes after the type
as_bytes : (n : ℕ) → n / 2 ^ 32 % 2 ^ 16 * 2 ^ 32 + n % 2 ^ 32 ≡ n % 2 ^ 48
as_bytes n = omega arith

address_bytes : (n : ℕ) → n / 2 ^ 16 % 2 ^ 32 * 2 ^ 16 + n % 2 ^ 16 ≡ n % 2 ^ 48
address_bytes n = omega arith

whole : (n kind : ℕ) → n / 2 ^ 48 ≡ kind → kind * 2 ^ 48 + n % 2 ^ 48 ≡ n
whole n kind h = omega (arith, h)

as_again : (n by_as by_address : ℕ) → type_field n ≡ by_as → pair_of by_as by_address (by_as_text n) ≡ Some n
unfolding pair_of
as_again n by_as by_address h =
    rw (
      cut_at 58 (decimal (n / 2 ^ 32 % 2 ^ 16)) _ (lacks-decimal 58 (n / 2 ^ 32 % 2 ^ 16) refl (omega arith)),
      number_up_to_again (n / 2 ^ 32 % 2 ^ 16) 65535 (omega arith) (omega arith),
      number_up_to_again (n % 2 ^ 32) 4294967295 (omega arith) (omega arith),
      as_bytes n,
    )
    (ap Some (whole n by_as h))

addressed_again : (n by_as by_address : ℕ) → type_field n ≡ by_address → pair_of by_as by_address (by_address_text n) ≡ Some n
unfolding pair_of
addressed_again n by_as by_address h =
    rw (
      cut_at 58 (address_text (n / 2 ^ 16 % 2 ^ 32)) _ (lacks-address 58 (n / 2 ^ 16 % 2 ^ 32) refl refl (omega arith)),
      address_no_number (n / 2 ^ 16 % 2 ^ 32) 65535,
      address_again (n / 2 ^ 16 % 2 ^ 32) (omega arith),
      number_up_to_again (n % 2 ^ 16) 65535 (omega arith) (omega arith),
      address_bytes n,
    )
    (ap Some (whole n by_address h))

pair_as : (n by_as by_address : ℕ) → type_field n ≡ by_as → by_as ≢ by_address → pair_text by_address n ≡ by_as_text n
unfolding pair_text
pair_as n by_as by_address h apart = grind (arith, nat_tests, h, apart)

pub pair_addressed : (n by_address : ℕ) → type_field n ≡ by_address → pair_text by_address n ≡ by_address_text n
unfolding pair_text
pair_addressed n by_address h = grind (arith, nat_tests, h)

pub pair_again : (n by_as by_address : ℕ) → by_as ≢ by_address →
    (type_field n == by_as || type_field n == by_address) ≡ true → pair_of by_as by_address (pair_text by_address n) ≡ Some n
pair_again n by_as by_address apart h =
    elim (eqb_tells (type_field n) by_as) [
      | inl e ↦ rw (pair_as n by_as by_address e.1 apart) (as_again n by_as by_address e.1)
      | inr e ↦ let t : type_field n ≡ by_address = grind (arith, nat_tests, h, e) in rw (pair_addressed n by_address t) (addressed_again n by_as by_address t)
    ]

pub rd_again : (rd : Rd) → has_rd_form rd.0 ≡ true → rd_of (rd_text rd) ≡ Some rd
rd_again rd h = rw (pair_again rd.0 0 1 (λ e. omega (arith, e)) h) refl

pub rt_again : (target : Rt) → has_rt_form target.0 ≡ true → rt_of (rt_text target) ≡ Some target
rt_again target h = rw (pair_again target.0 0x0002 0x0102 (λ e. omega (arith, e)) h) refl
