-- The words of a line. The lines of a text are std's `lines`.
use Rattle.std.specs.Prelude.{ℕ, Bool, not, ◌||◌, ◌==◌, List, [], length, filter, Option, Some, None}
use Rattle.std.specs.Borrow.{Bor}
use Rattle.std.specs.List.{slice_split}

-- a space or a tab
abbrev pub is_blank : ℕ → Bool
is_blank byte = byte == 32 || byte == 9

-- the parts between blanks, where they aren't empty
abbrev pub words : List ℕ → List (List ℕ)
words line = filter (λ part. not (length part == 0)) (slice_split is_blank line)

-- the parts of what follows a blank, none where no blank was found
abbrev pub parts_after : Option (Bor (List ℕ)) → List (List ℕ)
parts_after None = []
parts_after (Some rest) = slice_split is_blank rest.now
