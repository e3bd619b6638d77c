-- What a neighbour advertised for each FEC, as it is kept.
use Rattle.std.specs.Prelude.{ℕ, ◌≡◌, Bool, cond, List, [], ◌∷◌, length, Option, Some, None}

-- by FEC, its label where it is mapped
abbrev pub labels_of : List Bool → List ℕ → List (Option ℕ)
labels_of [] labels = []
labels_of (mapped ∷ flags) [] = []
labels_of (mapped ∷ flags) (label ∷ labels) = cond mapped (Some label) None ∷ labels_of flags labels

-- there are as many of both
abbrev pub AreOfOneLength : List Bool → List ℕ → Type 0
AreOfOneLength flags labels = length flags ≡ length labels
