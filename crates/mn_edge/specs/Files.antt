-- A finite map from a file's name to its bytes, and what the calls on a shelf do to it.
use Rattle.std.specs.Prelude.{◌≡◌, ◌⊎◌, ℕ, ◌≤◌, ◌<◌, List, [], ◌++◌, Option, None, Some, length, take, drop}
use Rattle.std.specs.Option.{ForSome}
use Rattle.std.specs.Ordering.{nat_cmp}
use Rattle.std.specs.Cmp.Lexicographic.{slice_cmp}
use Rattle.std.specs.FinMap as map

abbrev pub Files : Type 0
Files = map.FinMap (slice_cmp nat_cmp) (List ℕ)

-- the bytes of the file of this name, if it is there
abbrev pub file : Files → List ℕ → Option (List ℕ)
file m name = map.get m name

-- where files are told, none has this name
abbrev pub Absent : Option Files → List ℕ → Type 0
Absent files name = ForSome files (λ m. file m name ≡ None)

-- the same files, but that the one of this name holds these bytes
abbrev pub with_file : Files → List ℕ → List ℕ → Files
with_file m name bytes = map.insert m name bytes

-- the front of the buffer holds that many bytes of the file, from that place on; none only where the file has none there
pub record Fetched (m : Files) (name : List ℕ) (at count : ℕ) (buf : List ℕ) : Type 0 where
  pub bytes : List ℕ
  pub there : file m name ≡ Some bytes
  pub front : take count buf ≡ take count (drop at bytes)
  pub within : count ≤ length (drop at bytes)
  pub none_at_end : 0 < length buf → count ≡ 0 → length bytes ≤ at

-- what a refused `begin` leaves: all as it was, or the file empty
abbrev pub MayBegin : Files → List ℕ → Option Files → Type 0
MayBegin m name after = (after ≡ Some m) ⊎ (after ≡ Some (with_file m name []))

-- the file is there, and afterwards has the piece behind its bytes
pub record Grows (m : Files) (name piece : List ℕ) (after : Option Files) : Type 0 where
  pub bytes : List ℕ
  pub there : file m name ≡ Some bytes
  pub grown : after ≡ Some (with_file m name (bytes ++ piece))

-- what a refused `append` leaves: all as it was, or the file grown by a first part of the piece
abbrev pub MayGrow : Files → List ℕ → List ℕ → Option Files → Type 0
MayGrow m name piece after = (after ≡ Some m) ⊎ ((n : ℕ) × Grows m name (take n piece) after)
