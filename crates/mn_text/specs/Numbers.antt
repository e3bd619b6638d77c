-- The text of a number, and the numbers that are read.
use Rattle.std.specs.Prelude.{ℕ, Bool, not, ◌&&◌, ◌||◌, ◌==◌, nat_lt, nat_le, if◌then◌else◌, List, length, slice_index, Option, Some, None, Result, Ok, Err}
use Rattle.std.specs.List.{list_all}
use Rattle.std.specs.Char.{is_ascii_digit}
use Rattle.std.specs.Fmt.{decimal}
use Rattle.std.specs.Str.Parse.{digits_value}
use Rattle.mn_text.specs.declared.refusal.TextBad.{TextBad}
use Rattle.mn_text.specs.declared.refusal.TextBad.TheVariants.{NotANumber, TooGreat}

-- the text of a number: its decimal digits, without a leading zero
abbrev pub number_text : ℕ → List ℕ
number_text n = decimal n

-- one character, or several of which the first isn't `0`
abbrev pub begins_well : List ℕ → Bool
begins_well word = length word == 1 || (nat_lt 1 (length word) && not (slice_index word 0 == 48))

-- decimal digits without a leading zero, or `0`
abbrev pub is_number : List ℕ → Bool
is_number word = begins_well word && list_all is_ascii_digit word

-- the number that a word of digits writes, where it is at most `most`, and else why it isn't one
abbrev pub number_of : List ℕ → ℕ → Result ℕ TextBad
number_of word most =
    if not (is_number word) then Err NotANumber
    else if nat_lt most (digits_value 10 word) then Err TooGreat
    else Ok (digits_value 10 word)

-- a number of at most `most`, without the reason why it isn't one
abbrev pub number_up_to : List ℕ → ℕ → Option ℕ
number_up_to word most = if is_number word && nat_le (digits_value 10 word) most then Some (digits_value 10 word) else None
