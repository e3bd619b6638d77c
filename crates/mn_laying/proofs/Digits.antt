-- How many digits a number has.
use Rattle.std.proofs.Common.{◌≡◌, ℕ, ◌+◌, ◌<◌, ◌≤◌, ◌/◌, ◌^◌, List, ◌++◌, length, take, drop, arith, ap, sym, ◌∙◌, append_assoc, length-append, length-take-le}
use Rattle.std.proofs.Common.{take-append-drop, take_at}
use Rattle.std.specs.Fmt.{decimal}
use Rattle.std.proofs.lemmas.Fmt.{length-decimal-le}
use Rattle.itoa.proofs.Decimal.{length_one, length_two, length_pair, length_four, length_step_wide}

pub one_digit : (n : ℕ) → n < 10 → 1 ≡ length (decimal n)
one_digit n few = let one = length_one n few in omega (arith, one)

pub two_digits : (n : ℕ) → 10 ≤ n → n < 100 → 2 ≡ length (decimal n)
two_digits n many few = let two = length_two n many few in omega (arith, two)

pub three_digits : (n : ℕ) → 100 ≤ n → n < 1000 → 3 ≡ length (decimal n)
three_digits n many few =
    let pair = length_pair n many (omega arith) in
    let first = length_one (n / 100) (omega arith) in
    omega (arith, pair, first)

pub four_digits : (n : ℕ) → 1000 ≤ n → n < 10000 → 4 ≡ length (decimal n)
four_digits n many few =
    let pair = length_pair n (omega arith) (omega arith) in
    let first = length_two (n / 100) (omega arith) (omega arith) in
    omega (arith, pair, first)

pub five_digits : (n : ℕ) → 10000 ≤ n → n < 100000 → 5 ≡ length (decimal n)
five_digits n many few =
    let four = length_four n many (omega arith) in
    let first = length_one (n / 10000) (omega arith) in
    omega (arith, four, first)

pub six_digits : (n : ℕ) → 100000 ≤ n → n < 1000000 → 6 ≡ length (decimal n)
six_digits n many few =
    let four = length_four n (omega arith) (omega arith) in
    let first = length_two (n / 10000) (omega arith) (omega arith) in
    omega (arith, four, first)

-- one digit less
pub one_less : (n : ℕ) → 10 ≤ n → n < 2 ^ 64 → length (decimal n) ≡ length (decimal (n / 10)) + 1
one_less n many small = length_step_wide n many (omega arith)

pub at_most_20 : (n : ℕ) → n < 2 ^ 64 → length (decimal n) ≤ 20
at_most_20 n small = length-decimal-le 20 n (omega arith) (omega arith) small

-- what stands behind the bytes before it
pub written_at : (old new text : List ℕ) (at from end : ℕ) → from + length text ≡ end → end ≡ at + length text → end ≤ length old
    → drop from new ≡ text ++ drop end old → take from new ≡ take from old → take end new ≡ take at old ++ text
written_at old new text at from end starts ends within written before =
    let here : from ≡ at = omega (arith, starts, ends) in
    let kept : length (take from old) ≡ from = length-take-le from old (omega (arith, starts, within)) in
    let n : length (take from old ++ text) ≡ end = (let both = length-append (take from old) text in omega (arith, both, kept, starts)) in
    let whole : new ≡ (take from old ++ text) ++ drop end old =
    sym (take-append-drop from new) ∙ ap (λ l. l ++ drop from new) before ∙ ap (λ l. take from old ++ l) written
    ∙ sym (append_assoc (take from old) text (drop end old)) in
    ap (take end) whole ∙ take_at (take from old ++ text) (drop end old) end n ∙ ap (λ k. take k old ++ text) here
