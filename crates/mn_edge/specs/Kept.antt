-- Files that grow: what of them stands on the shelf, and what is held for them.
use Rattle.std.specs.Prelude.{◌≡◌, ◌<◌, ◌==◌, nat_le, ℕ, false, List, [], ◌++◌, length, map, sum_by, slice_index_or, slice_set, Option, Some, None, IsSome}
use Rattle.std.specs.Prelude.{suc, ◌∷◌, if◌then◌else◌}
use Rattle.std.specs.Option.{ForSome}
use Rattle.mn_edge.specs.Files.{Files, file}
use Rattle.mn_edge.specs.Written.{is_known, IsPrefix}

-- the name of a file by its number
abbrev pub name_of : List (List ℕ) → ℕ → List ℕ
name_of names k = slice_index_or names k []

-- the files are told, and one has each of these names
pub record AllThere (names : List (List ℕ)) (files : Option Files) : Type 0 where
  pub now : Files
  pub told : files ≡ Some now
  pub there : (k : ℕ) → k < length names → IsSome (file now (name_of names k))

-- the files aren't told, or none has one of these names
abbrev pub Lacking : List (List ℕ) → Option Files → Type 0
Lacking names files = AllThere names files → ⊥

-- what is held for a file
abbrev pub held_for : List (List ℕ) → ℕ → List ℕ
held_for held k = slice_index_or held k []

-- how many bytes are held over all files
abbrev pub held_bytes : List (List ℕ) → ℕ
held_bytes held = sum_by length held

-- for how many files anything is held
abbrev pub filled : List (List ℕ) → ℕ
filled [] = 0
filled ([] ∷ held) = filled held
filled ((byte ∷ bytes) ∷ held) = suc (filled held)

-- the most bytes that are held over so many files: over more than 64, 1 MiB in place of 64 KiB
abbrev pub most_held : ℕ → ℕ
most_held files = if nat_le files 64 then 65536 else 1048576

-- the same, but that a piece more is held for one file
abbrev pub with_piece : List (List ℕ) → ℕ → List ℕ → List (List ℕ)
with_piece held k piece = slice_set held k (held_for held k ++ piece)

-- nothing is held for any of as many files
abbrev pub none_held : List (List ℕ) → List (List ℕ)
none_held held = map (λ _. []) held

-- a file's bytes on the shelf, and behind them those that are held for it, are its contents
pub record IsHeld (names : List (List ℕ)) (contents : ℕ → List ℕ) (held : List (List ℕ)) (now : Files) (k : ℕ) : Type 0 where
  pub shelved : List ℕ
  pub there : file now (name_of names k) ≡ Some shelved
  pub whole : shelved ++ held_for held k ≡ contents k

abbrev pub Holds : List (List ℕ) → (ℕ → List ℕ) → List (List ℕ) → Files → Type 0
Holds names contents held now = (k : ℕ) → k < length names → IsHeld names contents held now k

-- a first part of a file's contents stands on the shelf
pub record HasBegun (names : List (List ℕ)) (contents : ℕ → List ℕ) (now : Files) (k : ℕ) : Type 0 where
  pub shelved : List ℕ
  pub there : file now (name_of names k) ≡ Some shelved
  pub part : IsPrefix shelved (contents k)

abbrev pub Begins : List (List ℕ) → (ℕ → List ℕ) → Files → Type 0
Begins names contents now = (k : ℕ) → k < length names → HasBegun names contents now k

-- one file's contents with a piece behind them
abbrev pub grown : (ℕ → List ℕ) → ℕ → List ℕ → ℕ → List ℕ
grown contents k piece other = contents other ++ (if k == other then piece else [])

-- only files of these names have changed, where files are told, and if all were there they still are; files are told afterwards
-- exactly where they were told before
pub record Framed (names : List (List ℕ)) (old new : Option Files) : Type 0 where
  pub silent : old ≡ None → new ≡ None
  pub stays : AllThere names old → AllThere names new
  pub others : ForSome old (λ before. (now : Files) × (new ≡ Some now) × ((name : List ℕ) → is_known names name ≡ false → file now name ≡ file before name))

-- the files are told, and hold these contents together with what is held for them
pub record HoldsOn (names : List (List ℕ)) (contents : ℕ → List ℕ) (held : List (List ℕ)) (files : Option Files) : Type 0 where
  pub now : Files
  pub told : files ≡ Some now
  pub holds : Holds names contents held now

-- the files are told, and each holds a first part of these contents
pub record BeginsOn (names : List (List ℕ)) (contents : ℕ → List ℕ) (files : Option Files) : Type 0 where
  pub now : Files
  pub told : files ≡ Some now
  pub begins : Begins names contents now
