-- What a name is.
use Rattle.std.specs.Prelude.{ℕ, Bool, ◌&&◌, ◌||◌, nat_le, ◌==◌, length, List}
use Rattle.std.specs.List.{list_all}
use Rattle.std.specs.Char.{is_ascii_alphanumeric}

-- an ASCII letter or digit, `-`, `.` or `_`
abbrev pub is_name_byte : ℕ → Bool
is_name_byte byte = ((is_ascii_alphanumeric byte || byte == 45) || byte == 46) || byte == 95

-- 1 to 32 of these
abbrev pub is_name : List ℕ → Bool
is_name word = (nat_le 1 (length word) && nat_le (length word) 32) && list_all is_name_byte word
