-- Files that are written in pieces: what stands when all are written, and what may stand before.
use Rattle.std.specs.Prelude.{◌≡◌, ℕ, Bool, true, false, ◌||◌, ◌&&◌, List, [], ◌∷◌, ◌++◌, map, Option, Some, String, Vec, string_bytes, if◌then◌else◌, ⊤}
use Rattle.std.specs.List.{flat_map}
use Rattle.std.specs.Ordering.{nat_cmp, eq_by_cmp}
use Rattle.std.specs.Cmp.Lexicographic.{slice_cmp}
use Rattle.std.specs.declared.alloc.Global.{Global}
use Rattle.mn_edge.specs.Files.{Files, with_file}

-- the bytes of each name
abbrev pub texts : List (String Global) → List (List ℕ)
texts names = map string_bytes names

-- the bytes of each name, with the bytes beside it
abbrev pub pairs : List (String Global × Vec ℕ Global) → List (List ℕ × List ℕ)
pairs entries = map (λ e. (string_bytes e.0, e.1.items)) entries

-- the test of `Files` for the name that it looks for
abbrev pub same_name : List ℕ → List ℕ → Bool
same_name a b = eq_by_cmp (slice_cmp nat_cmp) a b

abbrev pub is_known : List (List ℕ) → List ℕ → Bool
is_known [] name = false
is_known (n ∷ ns) name = same_name name n || is_known ns name

-- each piece is for one of the names
abbrev pub all_known : List (List ℕ) → List (List ℕ × List ℕ) → Bool
all_known names [] = true
all_known names (p ∷ ps) = is_known names p.0 && all_known names ps

-- all pieces for this name, one behind the other
abbrev pub bytes_for : List (List ℕ × List ℕ) → List ℕ → List ℕ
bytes_for pieces name = flat_map (λ p. if same_name name p.0 then p.1 else []) pieces

-- a file for each of the names
abbrev pub each : (List ℕ → List ℕ) → List (List ℕ) → List (List ℕ × List ℕ)
each bytes names = map (λ name. (name, bytes name)) names

-- the files of these names, each with all its pieces
abbrev pub written : List (List ℕ) → List (List ℕ × List ℕ) → List (List ℕ × List ℕ)
written names pieces = each (bytes_for pieces) names

-- the files of before, with these in place of what stood under their names
abbrev pub laid : List (List ℕ × List ℕ) → Files → Files
laid [] m = m
laid (w ∷ ws) m = with_file (laid ws m) w.0 w.1

-- the files of these names stand over the base, each with all its pieces, and nothing else has changed
abbrev pub Stands : List (List ℕ) → List (List ℕ × List ℕ) → Files → Option Files → Type 0
Stands names done base now = now ≡ Some (laid (written names done) base)

abbrev pub IsPrefix : List ℕ → List ℕ → Type 0
IsPrefix front all = (rest : List ℕ) × (front ++ rest ≡ all)

-- the first few of the files, each with a first part of its bytes
abbrev pub IsPart : List (List ℕ × List ℕ) → List (List ℕ × List ℕ) → Type 0
IsPart [] files = ⊤
IsPart (w ∷ ws) [] = ⊥
IsPart (w ∷ ws) (f ∷ fs) = (w.0 ≡ f.0) × IsPrefix w.1 f.1 × IsPart ws fs

-- some of the files stand in part over those of before, and nothing else has changed
pub record PartWritten (files : List (List ℕ × List ℕ)) (m : Files) (after : Option Files) : Type 0 where
  pub stands : List (List ℕ × List ℕ)
  pub is_part : IsPart stands files
  pub after_is : after ≡ Some (laid stands m)

-- each of the files was begun: it has a first part of its bytes, and no other file has changed
pub record AllBegun (files : List (List ℕ × List ℕ)) (m : Files) (after : Option Files) : Type 0 where
  pub stands : List (List ℕ × List ℕ)
  pub names : map (λ f. f.0) stands ≡ map (λ f. f.0) files
  pub is_part : IsPart stands files
  pub after_is : after ≡ Some (laid stands m)
