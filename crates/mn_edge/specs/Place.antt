-- Where a file stands in a list of named files.
use Rattle.std.specs.Prelude.{◌≡◌, ℕ, ◌<◌, List, [], take, Option, None, length, slice_index_or}
use Rattle.std.specs.Ordering.{nat_cmp}
use Rattle.std.specs.Cmp.Lexicographic.{slice_cmp}
use Rattle.std.specs.FinMap as map

-- the bytes of the first entry of this name
abbrev pub bytes_at : List (List ℕ × List ℕ) → List ℕ → Option (List ℕ)
bytes_at entries name = map.find (slice_cmp nat_cmp) name entries

abbrev pub entry : List (List ℕ × List ℕ) → ℕ → List ℕ × List ℕ
entry entries i = slice_index_or entries i ([], [])

-- the first entry of this name stands there
pub record IsAt (entries : List (List ℕ × List ℕ)) (name : List ℕ) (i : ℕ) : Type 0 where
  pub within : i < length entries
  pub named : (entry entries i).0 ≡ name
  pub first : bytes_at (take i entries) name ≡ None
