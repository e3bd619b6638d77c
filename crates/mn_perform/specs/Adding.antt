-- What a call puts behind the contents of files, and what it leaves as it was.
use Rattle.std.specs.Prelude.{◌≡◌, ℕ, ◌==◌, List, [], ◌++◌, if◌then◌else◌, Option, Result, OnOk, OnErr}
use Rattle.mn_edge.specs.declared.device.DeviceBad.{DeviceBad}
use Rattle.mn_edge.specs.Faults.{CountedUnless}
use Rattle.mn_edge.specs.Files.{Files}
use Rattle.mn_edge.specs.Kept.{HoldsOn, BeginsOn, Framed, Lacking}
use Rattle.mn_perform.specs.Recorded.{BooksNow}

-- each file's contents with a part of its own behind them
abbrev pub with_part : (ℕ → List ℕ) → (ℕ → List ℕ) → ℕ → List ℕ
with_part contents part k = contents k ++ part k

-- bytes for one file, and nothing for the others
abbrev pub only_in : ℕ → List ℕ → ℕ → List ℕ
only_in file bytes k = if file == k then bytes else []

-- whatever the files held, they hold these parts besides
abbrev pub Adds : (ℕ → List ℕ) → BooksNow → BooksNow → Option Files → Option Files → Type 0
Adds part old new before after =
    (contents : ℕ → List ℕ) → HoldsOn old.names contents old.held before → HoldsOn new.names (with_part contents part) new.held after

-- after a fault: each has a first part of that
abbrev pub MayAdd : (ℕ → List ℕ) → BooksNow → BooksNow → Option Files → Option Files → Type 0
MayAdd part old new before after =
    (contents : ℕ → List ℕ) → HoldsOn old.names contents old.held before → BeginsOn new.names (with_part contents part) after

-- by `Ok` they hold these parts besides; after a fault each has a first part of that
pub record Puts {T E : Type 0} (part : ℕ → List ℕ) (old new : BooksNow) (before after : Option Files) (result : Result T E) : Type 0 where
  pub adds : OnOk result (Adds part old new before after)
  pub may : OnErr result (MayAdd part old new before after)

-- The names and places stay, and so does each file that isn't one of these; `Failed` comes only where a write failed, or one of these
-- wasn't there; and nothing is read. The shelf is seen by what it tells of its files and of its faults.
pub record Stays {Kept T : Type 0} (files : Kept → Option Files) (write_faults read_faults : Kept → Option ℕ) (old new : BooksNow) (before after : Kept)
    (result : Result T DeviceBad) : Type 0 where
  pub names : new.names ≡ old.names
  pub places : new.places ≡ old.places
  pub framed : Framed old.names (files before) (files after)
  pub writes : CountedUnless (Lacking old.names (files before)) (write_faults before) (write_faults after) result
  pub reads : read_faults after ≡ read_faults before
