-- The parts of a line: its words, cut at commas.
use Rattle.std.specs.Prelude.{ℕ, Bool, ◌==◌, List, [], ◌∷◌, ◌++◌, map, Option, Some, None}
use Rattle.std.specs.Borrow.{Bor}
use Rattle.std.specs.List.{slice_split, flat_map}
use Rattle.mn_text.specs.Words.{words}

abbrev pub is_comma : ℕ → Bool
is_comma byte = byte == 44

-- the pieces of a text between its commas, and of each the words
abbrev pub pieces : List ℕ → List (List (List ℕ))
pieces text = map words (slice_split is_comma text)

-- words as a text, a space behind each
abbrev pub spaced : List (List ℕ) → List ℕ
spaced ws = flat_map (λ word. word ++ 32 ∷ []) ws

-- the parts of a line of these words
abbrev pub parts_of : List (List ℕ) → List (List (List ℕ))
parts_of ws = pieces (spaced ws)

-- the pieces of what follows a comma, none where no comma was found
abbrev pub pieces_after : Option (Bor (List ℕ)) → List (List ℕ)
pieces_after None = []
pieces_after (Some rest) = slice_split is_comma rest.now
