-- What stands outside while a script is played: the report so far, and the file of what came out so far.
use Rattle.std.specs.Prelude.{ℕ, List, Option}
use Rattle.std.specs.Option.{ForSome}
use Rattle.mn_edge.specs.Files.{Files}
use Rattle.mn_edge.specs.Kept.{HoldsOn, BeginsOn}
use Rattle.mn_lines.specs.Putting.{PutOn, PartPut}

-- the names of the files that are written, and what waits for each: there is one
pub record FileNow : Type 0 where
  pub names : List (List ℕ)
  pub held : List (List ℕ)

-- what waits on the page, and what stands in the sink where that is told; what waits for the file, and the shelf's files where they
-- are told
pub record Outside : Type 0 where
  pub waits : List ℕ
  pub written : Option (List ℕ)
  pub held : List (List ℕ)
  pub files : Option Files

abbrev pub outside : List ℕ → Option (List ℕ) → List (List ℕ) → Option Files → Outside
outside waits written held files = record { waits = waits; written = written; held = held; files = files }

-- the file holds these bytes together with what waits for it; a first part of them stands in it
abbrev pub Holding : List (List ℕ) → List ℕ → List (List ℕ) → Option Files → Type 0
Holding names bytes held files = HoldsOn names (λ _. bytes) held files

abbrev pub Beginning : List (List ℕ) → List ℕ → Option Files → Type 0
Beginning names bytes files = BeginsOn names (λ _. bytes) files

-- what was put before a run began, the shelf's files before, and the names of the files that it writes
pub record Start : Type 0 where
  pub before : Option (List ℕ)
  pub base : Option Files
  pub names : List (List ℕ)

-- the report so far is this text, and the file these bytes
pub record Stands (start : Start) (told bytes : List ℕ) (now : Outside) : Type 0 where
  pub text : ForSome start.before (λ before. PutOn before told now.waits now.written)
  pub file : ForSome start.base (λ base. Holding start.names bytes now.held now.files)

-- the run was cut off: a first part of this text was put, and the file has a first part of these bytes
pub record IsCut (start : Start) (told bytes : List ℕ) (now : Outside) : Type 0 where
  pub text : ForSome start.before (λ before. PartPut told before now.written)
  pub file : ForSome start.base (λ base. Beginning start.names bytes now.files)
