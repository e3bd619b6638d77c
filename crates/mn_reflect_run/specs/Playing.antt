-- How the lines of a script go on edges and reflectors.
use Rattle.std.specs.Prelude.{◌≡◌, ◌≢◌, ◌≤◌, ◌==◌, ◌<◌, ℕ, true, false, if◌then◌else◌, List, [], ◌∷◌, ◌++◌, length, None, Result, Ok, Err, ⊤}
use Rattle.std.specs.List.{flat_map}
use Rattle.mn_base.specs.Limits.{most_steps}
use Rattle.mn_edge.specs.declared.device.DeviceBad.{DeviceBad}
use Rattle.mn_topo.specs.Network.{Network}
use Rattle.mn_topo.specs.declared.steps.Step.{Step}
use Rattle.mn_ledger.specs.declared.refused.Refused.{Refused}
use Rattle.mn_ledger.specs.declared.refused.Refused.TheVariants as cause
use Rattle.mn_tables.specs.Telling.{Stand, Tells, Told}
use Rattle.mn_reflect_ledger_laws.specs.World.{world_of}
use Rattle.mn_reflect_ledger_laws.specs.Refusal.{refusal}
use Rattle.mn_reflect_world_laws.specs.Now.{ReflectNow}
use Rattle.mn_reflect_world_laws.specs.Steps.{takes}
use Rattle.mn_reflect.specs.Course.{IsRun}
use Rattle.mn_reflect.specs.declared.refusal.ReflectBad.{ReflectBad}
use Rattle.mn_reflect.specs.declared.refusal.ReflectBad.TheVariants as bad
use Rattle.mn_reflect_run.specs.declared.command.ReflectCommand.{ReflectCommand}
use Rattle.mn_reflect_run.specs.declared.command.ReflectCommand.TheVariants as command
use Rattle.mn_reflect_run.specs.declared.command.ReflectLine.{ReflectLine}
use Rattle.mn_answer.specs.declared.played.Ended.{Ended}
use Rattle.mn_answer.specs.declared.played.Ended.TheVariants as ended
use Rattle.mn_answer.specs.declared.played.Played.{Played}
use Rattle.mn_answer.specs.declared.played.Played.TheVariants as played
use Rattle.mn_reflect_run.specs.Language.{command_fits}
use Rattle.mn_reflect_run.specs.Course.{Note, Refusal, Table, ReflectRun, run_of}
use Rattle.mn_reflect_run.specs.Report.{note_text, refusals, report}

-- edges and reflectors stand where a run of them has come
pub record IsAt (topology : Network) (reflectors : List ℕ) (run : ReflectRun) (now : ReflectNow) : Type 0 where
  pub stands : IsRun topology reflectors run.steps now
  pub goes_on : run.is_stopped ≡ false
  pub few : length run.steps ≤ most_steps

-- a refusal in the ledger's words
abbrev pub cause_of : ReflectBad → Refused
cause_of bad.Unchanged = cause.Unchanged
cause_of bad.Empty = cause.Empty
cause_of (bad.PrefixTaken site) = cause.PrefixTaken site
cause_of bad.NoRouteThere = cause.NoRouteThere
cause_of bad.RoutesFull = cause.RoutesFull
cause_of bad.TargetsFull = cause.TargetsFull
cause_of bad.LabelsSpent = cause.LabelsSpent
cause_of bad.NetFull = cause.NetFull
cause_of bad.NoMemory = cause.NoMemory

-- how a step went before which so many were done, by what it was answered; out of memory is reported otherwise
abbrev pub IsAnswered : ℕ → Result (Unit {0}) ReflectBad → Played Refused → Type 0
IsAnswered steps (Ok done) how = how ≡ (if steps == most_steps then played.TooManySteps else played.All)
IsAnswered steps (Err why) how = (how ≡ played.Refused (cause_of why)) × (why ≢ bad.NoMemory)

-- what is reported of a line that was done, and of one by how it went
abbrev pub shown_by : List Step → ReflectCommand → List Note
shown_by steps (command.Show vrf) = Table vrf.0 steps ∷ []
shown_by steps asked = []

abbrev pub notes_by : List Step → ReflectLine → Played Refused → List Note
notes_by steps line played.All = shown_by steps line.command
notes_by steps line (played.Refused why) = Refusal line.number why ∷ []
notes_by steps line played.TooManySteps = []

-- some run has come to where they stand
pub record MayGoOn (now : ReflectNow) : Type 0 where
  pub topology : Network
  pub reflectors : List ℕ
  pub run : ReflectRun
  pub at : IsAt topology reflectors run now

-- and there is room for what a line asks for
pub record MayPlay (now : ReflectNow) (asked : ReflectCommand) : Type 0 where
  pub topology : Network
  pub reflectors : List ℕ
  pub run : ReflectRun
  pub at : IsAt topology reflectors run now
  pub fits : command_fits topology reflectors asked ≡ true

-- the hearing is of a message that flies
pub record CanHear (now : ReflectNow) (hearing : Step) : Type 0 where
  pub topology : Network
  pub reflectors : List ℕ
  pub steps : List Step
  pub is : IsRun topology reflectors steps now
  pub takes : takes topology reflectors hearing ≡ true
  pub few : length steps ≤ most_steps
  pub flies : refusal topology (world_of topology reflectors steps) hearing ≡ None

-- the VRF of a table is there
abbrev pub HasTable : Network → ReflectCommand → Type 0
HasTable topology (command.Show vrf) = vrf.0 < length topology.vrfs
HasTable topology asked = ⊤

-- a table is put where edges and reflectors stand after these steps
abbrev pub ShowsAt : Network → List ℕ → List Step → ReflectCommand → ReflectNow → Type 0
ShowsAt topology reflectors steps (command.Show vrf) now = IsRun topology reflectors steps now
ShowsAt topology reflectors steps asked now = ⊤

-- after a line: all was done, it was refused, or it met as many steps as there may be
abbrev pub StandsAfter : Network → List ℕ → ReflectRun → Played Refused → ReflectNow → Type 0
StandsAfter topology reflectors after played.All now = IsAt topology reflectors after now
StandsAfter topology reflectors after (played.Refused why) now = IsAt topology reflectors after now
StandsAfter topology reflectors after played.TooManySteps now = after.is_stopped ≡ true

pub record Follows (topology : Network) (reflectors : List ℕ) (after before : ReflectRun) (line : ReflectLine) (how : Played Refused) (now : ReflectNow)
    : Type 0 where
  pub stands : StandsAfter topology reflectors after how now
  pub told : after.notes ≡ before.notes ++ notes_by before.steps line how
  pub shows : ShowsAt topology reflectors before.steps line.command now

-- after a drain: it met as many steps as there may be, or not; nothing is reported of it
abbrev pub IsDrained : Network → List ℕ → ReflectRun → ReflectRun → Played Refused → ReflectNow → Type 0
IsDrained topology reflectors after before played.All now = IsAt topology reflectors after now × (after.notes ≡ before.notes)
IsDrained topology reflectors after before (played.Refused why) now = ⊥
IsDrained topology reflectors after before played.TooManySteps now = (after.is_stopped ≡ true) × (after.notes ≡ before.notes)

-- what was refused of a line
abbrev pub refused_in : Played Refused → ℕ
refused_in played.All = 0
refused_in (played.Refused why) = 1
refused_in played.TooManySteps = 0

abbrev pub notes_text : Network → List ℕ → List Note → List ℕ
notes_text topology reflectors notes = flat_map (note_text topology reflectors) notes

-- these lines were played and none met full steps: what is reported of them was put, and so many were refused
pub record ArePlayed (topology : Network) (reflectors : List ℕ) (lines : List ReflectLine) (now : ReflectNow) (refused : ℕ) (old new : Stand) : Type 0 where
  pub at : IsAt topology reflectors (run_of topology reflectors lines) now
  pub counted : refusals (run_of topology reflectors lines).notes ≡ refused
  pub told : Told (notes_text topology reflectors (run_of topology reflectors lines).notes) old new

-- one of the lines met full steps: what is reported of those before it was put
pub record AreCut (topology : Network) (reflectors : List ℕ) (lines : List ReflectLine) (old new : Stand) : Type 0 where
  pub stopped : (run_of topology reflectors lines).is_stopped ≡ true
  pub told : Told (notes_text topology reflectors (run_of topology reflectors lines).notes) old new

-- all lines were played, or those before one that met full steps; by an error a first part of the report was put
abbrev pub PlaysAll : Network → List ℕ → List ReflectLine → ReflectNow → Stand → Stand → Result Ended DeviceBad → Type 0
PlaysAll topology reflectors lines now old new (Ok (ended.All refused)) = ArePlayed topology reflectors lines now refused old new
PlaysAll topology reflectors lines now old new (Ok ended.TooManySteps) = AreCut topology reflectors lines old new
PlaysAll topology reflectors lines now old new (Err why) =
    Tells {T = Unit {0}} (report topology reflectors (run_of topology reflectors lines)) old new (Err why)
