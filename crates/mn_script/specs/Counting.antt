-- How many lines a text has.
use Rattle.std.specs.Prelude.{ℕ, ◌+◌, ◌-◌, ◌==◌, ◌&&◌, nat_lt, not, if◌then◌else◌, Bool, List, length, slice_index, count_by}

-- a byte stands after the last line feed
abbrev pub ends_open : List ℕ → Bool
ends_open text = nat_lt 0 (length text) && not (slice_index text (length text - 1) == 10)

-- as many as line feeds, and one more where a byte stands after the last of them
abbrev pub line_count : List ℕ → ℕ
line_count text = count_by (λ byte. byte == 10) text + (if ends_open text then 1 else 0)
