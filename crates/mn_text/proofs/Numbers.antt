-- The value of digits, one digit after another.
use Rattle.std.proofs.Common.{◌≡◌, ℕ, ◌+◌, ◌*◌, ◌<◌, ◌≤◌, List, length, get_or, take, lit≤, refl}
use Rattle.std.specs.Char.{digit_value}
use Rattle.std.specs.Str.Parse.{digits_value}
use Rattle.std.proofs.lemmas.Int.Digits.{digits_value_more}
use Rattle.std.proofs.lemmas.Str.Parse.{digits_value-take-le}

-- one digit more, and that no digits after it make the number less
pub one_more : (w : List ℕ) (i : ℕ) → i < length w →
    (digits_value 10 (take i w) ≡ digits_value 10 (take i w))
    × (digits_value 10 (take (i + 1) w) ≡ digits_value 10 (take i w) * 10 + digit_value (get_or w i 0))
    × (digits_value 10 (take i w) * 10 + digit_value (get_or w i 0) ≤ digits_value 10 w)
one_more w i h = (refl, digits_value_more 10 w i h, rw (← digits_value_more 10 w i h) (digits_value-take-le 10 w (i + 1) (lit≤ tt)))
