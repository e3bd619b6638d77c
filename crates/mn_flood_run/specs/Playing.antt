-- How the lines of a script go on a flood.
use Rattle.std.specs.Prelude.{◌≡◌, ◌≢◌, ◌≤◌, ◌==◌, ℕ, true, false, if◌then◌else◌, not, List, [], ◌∷◌, ◌++◌, length, codes, Result, Ok, Err}
use Rattle.std.specs.List.{flat_map}
use Rattle.mn_base.specs.Limits.{most_steps}
use Rattle.mn_edge.specs.declared.device.DeviceBad.{DeviceBad}
use Rattle.mn_wiring.specs.Wiring.{View}
use Rattle.mn_topo.specs.Network.{Network}
use Rattle.mn_flood_laws.specs.Course.{FloodRefused, FloodRun}
use Rattle.mn_flood.specs.declared.refusal.FloodBad.{FloodBad}
use Rattle.mn_flood.specs.declared.refusal.FloodBad.TheVariants as bad
use Rattle.mn_flood.specs.Floods.{FloodNow, bad_of}
use Rattle.mn_lines.specs.Lines.{refused_line}
use Rattle.mn_output_laws.specs.Tables.{tree_line}
use Rattle.mn_tables.specs.Telling.{Stand, Tells, Told}
use Rattle.mn_flood_run.specs.declared.command.FloodLine.{FloodLine}
use Rattle.mn_answer.specs.declared.played.Ended.{Ended}
use Rattle.mn_answer.specs.declared.played.Ended.TheVariants as ended
use Rattle.mn_answer.specs.declared.played.Played.{Played}
use Rattle.mn_answer.specs.declared.played.Played.TheVariants as played
use Rattle.mn_flood_run.specs.Report.{report, course_of, refused_text}

-- a flood stands where a run of it has come
pub record IsAt (run : FloodRun) (now : FloodNow) : Type 0 where
  pub world : now.world ≡ run.world
  pub steps : now.done ≡ run.steps
  pub works : now.failed ≡ false
  pub goes_on : run.is_stopped ≡ false
  pub few : run.steps ≤ most_steps

-- a line was refused by this cause, and nothing else
pub record IsRefusedBy (after before : FloodRun) (number : ℕ) (why : FloodBad) : Type 0 where
  pub cause : FloodRefused
  pub is : bad_of cause ≡ why
  pub refused : after.refused ≡ before.refused ++ record { line = number; cause = cause } ∷ []

-- after a line: all was done, it was refused, or it met as many steps as there may be
abbrev pub Follows : FloodRun → FloodRun → ℕ → Played FloodBad → FloodNow → Type 0
Follows after before number played.All now = IsAt after now × (after.refused ≡ before.refused)
Follows after before number (played.Refused why) now = IsAt after now × IsRefusedBy after before number why
Follows after before number played.TooManySteps now = (after.is_stopped ≡ true) × (after.refused ≡ before.refused)

-- how an event went before which so many steps were done, by what the flood answered; out of memory is reported otherwise
abbrev pub IsAnswered : ℕ → Result (Unit {0}) FloodBad → Played FloodBad → Type 0
IsAnswered steps (Ok done) how = how ≡ (if steps == most_steps then played.TooManySteps else played.All)
IsAnswered steps (Err why) how = (how ≡ played.Refused why) × (why ≢ bad.NoMemory)

-- a refusal by its name
abbrev pub bad_name : FloodBad → List ℕ
bad_name bad.Unchanged = codes "Unchanged"
bad_name bad.FloodFull = codes "FloodFull"
bad_name bad.Empty = codes "Empty"
bad_name bad.NoMemory = codes "NoMemory"

-- what is put of a line, and how many lines that are
abbrev pub played_text : ℕ → Played FloodBad → List ℕ
played_text number played.All = []
played_text number (played.Refused why) = refused_line number (bad_name why)
played_text number played.TooManySteps = []

abbrev pub played_count : Played FloodBad → ℕ
played_count played.All = 0
played_count (played.Refused why) = 1
played_count played.TooManySteps = 0

-- the line of a walk towards another node, and none towards the node itself
abbrev pub walk_row : Network → View → ℕ → ℕ → List ℕ
walk_row topology view node to = if not (to == node) then tree_line topology view node to else []

-- these lines were played and none met full steps: the refused ones were put, and so many they were
pub record ArePlayed (topology : Network) (lines : List FloodLine) (now : FloodNow) (refused : ℕ) (old new : Stand) : Type 0 where
  pub at : IsAt (course_of topology lines) now
  pub counted : length (course_of topology lines).refused ≡ refused
  pub told : Told (flat_map refused_text (course_of topology lines).refused) old new

-- one of the lines met full steps: the refused ones before it were put
pub record AreCut (topology : Network) (lines : List FloodLine) (old new : Stand) : Type 0 where
  pub stopped : (course_of topology lines).is_stopped ≡ true
  pub told : Told (flat_map refused_text (course_of topology lines).refused) old new

-- all lines were played, or those before one that met full steps; by an error a first part of the report was put
abbrev pub PlaysAll : Network → List FloodLine → FloodNow → Stand → Stand → Result Ended DeviceBad → Type 0
PlaysAll topology lines now old new (Ok (ended.All refused)) = ArePlayed topology lines now refused old new
PlaysAll topology lines now old new (Ok ended.TooManySteps) = AreCut topology lines old new
PlaysAll topology lines now old new (Err bad) = Tells {T = Unit {0}} (report topology (course_of topology lines)) old new (Err bad)
