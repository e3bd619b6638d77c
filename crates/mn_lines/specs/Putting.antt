-- Text that is put in pieces: what of it stands behind what was there before, and what waits.
use Rattle.std.specs.Prelude.{◌≡◌, ℕ, List, ◌++◌, Option, Some}
use Rattle.mn_edge.specs.Written.{IsPrefix}

-- behind what was there before stands a first part of the text, and the rest of it waits
pub record PutOn (before text waits : List ℕ) (written : Option (List ℕ)) : Type 0 where
  pub part : List ℕ
  pub told : written ≡ Some (before ++ part)
  pub whole : part ++ waits ≡ text

-- behind what was there before stands a first part of the text
abbrev pub PartPut : List ℕ → List ℕ → Option (List ℕ) → Type 0
PartPut text before written = (part : List ℕ) × IsPrefix part text × (written ≡ Some (before ++ part))

-- the text was put behind all that was to be put so far, whatever that was: it stands, or the end of it waits
abbrev pub Puts : List ℕ → List ℕ → List ℕ → Option (List ℕ) → Option (List ℕ) → Type 0
Puts text waited waits written now = (before so_far : List ℕ) → PutOn before so_far waited written → PutOn before (so_far ++ text) waits now

-- a first part was put of all that was to be put so far and the text
abbrev pub PutsPart : List ℕ → List ℕ → Option (List ℕ) → Option (List ℕ) → Type 0
PutsPart text waited written now = (before so_far : List ℕ) → PutOn before so_far waited written → PartPut (so_far ++ text) before now
