-- How the uses are kept: at the place of each label, from 0, what it is used for.
use Rattle.std.specs.Prelude.{ℕ, ◌+◌, List, [], ◌∷◌, Option, Some, None}
use Rattle.mn_lfib.specs.declared.answer.Use.{Use}

-- of the labels from this one on, those that have a use, and their uses
abbrev pub used_from : ℕ → List (Option Use) → List (ℕ × Use)
used_from label [] = []
used_from label (None ∷ more) = used_from (label + 1) more
used_from label (Some used ∷ more) = (label, used) ∷ used_from (label + 1) more
