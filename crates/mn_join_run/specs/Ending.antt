-- How a run over two joined networks ends.
use Rattle.std.specs.Prelude.{◌≡◌, ◌⊎◌, ℕ, cond, List, [], ◌∷◌, ◌++◌, map, Option, Some, None, Result, Ok, Err, codes, ⊤}
use Rattle.std.specs.Option.{ForSome}
use Rattle.mn_edge.specs.Files.{Files}
use Rattle.mn_edge.specs.Laid.{named}
use Rattle.mn_edge.specs.Written.{laid, PartWritten, AllBegun}
use Rattle.mn_answer.specs.declared.outcome.Outcome.{Outcome}
use Rattle.mn_answer.specs.declared.outcome.Outcome.TheVariants as outcome
use Rattle.mn_answer.specs.declared.outcome.Limit.TheVariants.{Steps}
use Rattle.mn_base.specs.Limits.{most_steps}
use Rattle.mn_lines.specs.Putting.{PartPut}
use Rattle.mn_perform.specs.Shown.{sending_of}
use Rattle.mn_perform.specs.Running.{is_stopped}
use Rattle.mn_perform.specs.declared.ended.Ended.{Ended}
use Rattle.mn_perform.specs.declared.ended.Ended.TheVariants as ended
use Rattle.mn_perform.specs.declared.ended.Fault.{Fault}
use Rattle.mn_perform.specs.declared.ended.Fault.TheVariants as fault
use Rattle.mn_join_laws.specs.declared.leg.Which.{Which}
use Rattle.mn_join_laws.specs.Pairing.{Pairing, at_first}
use Rattle.mn_join.specs.Pairs.{PairNow, PairStands}
use Rattle.mn_join_run.specs.Course.{JoinRun}
use Rattle.mn_join_run.specs.Reading.{IsJoined}
use Rattle.mn_join_run.specs.Report.{refused_texts, ended_text, report, exits_file}
use Rattle.mn_join_run.specs.Answer.{exits_name}
use Rattle.mn_join_run.specs.Outside.{Start}
use Rattle.mn_join_run.specs.Promise.{IsLawfulSide}
use Rattle.mn_join_run.specs.declared.desk.Desk.{Desk}

-- both networks are at their start
pub record AreAtFirst (pair : PairNow) : Type 0 where
  pub pairing : Pairing
  pub stands : PairStands pairing pair at_first
  pub goes : pair.stopped ≡ None

-- 1. The end of the report

-- what is put once no line follows
abbrev pub last_text : Pairing → JoinRun → List ℕ
last_text pairing run = cond run.is_stopped (codes "too large steps\n") (ended_text pairing run)

-- where all lines were played the two networks are what they made of them
abbrev pub IsEnded : Ended → PairNow → Type 0
IsEnded ended.All pair = IsJoined pair
IsEnded ended.TooManySteps pair = ⊤

-- a run has ended so, with these networks and sendings
abbrev pub HasEnded : Pairing → JoinRun → Ended → PairNow → Desk → Type 0
HasEnded pairing run ended.All pair desk =
    (run.is_stopped ≡ is_stopped ended.All) × PairStands pairing pair run.both × (map sending_of desk.sent.items ≡ run.sendings)
HasEnded pairing run ended.TooManySteps pair desk = run.is_stopped ≡ is_stopped ended.TooManySteps

-- 2. How the call ends

abbrev pub outcome_by : Result Ended Fault → Outcome
outcome_by (Ok ended.All) = outcome.Done
outcome_by (Ok ended.TooManySteps) = outcome.TooLarge Steps most_steps
outcome_by (Err fault.Read) = outcome.ReadFault
outcome_by (Err fault.Write) = outcome.WriteFault
outcome_by (Err fault.NoMemory) = outcome.NoMemory

-- where all was done, both networks are lawful
abbrev pub AreLawfulIfDone : Pairing → JoinRun → Outcome → Type 0
AreLawfulIfDone pairing run outcome.Done = (which : Which) → IsLawfulSide pairing run.both which
AreLawfulIfDone pairing run other = ⊤

-- 3. What stands in the end

-- whether a full journal stopped it
abbrev pub EndsAs : JoinRun → Result Ended Fault → Type 0
EndsAs run (Ok how) = run.is_stopped ≡ is_stopped how
EndsAs run (Err why) = ⊤

-- the file, by its name
abbrev pub the_files : Start → JoinRun → List (List ℕ × List ℕ)
the_files start run = named start.names (λ _. exits_file run.exits)

-- the file is whole, laid over the files of before; after a fault a first part of it
abbrev pub FilesBy : List (List ℕ × List ℕ) → Files → Option Files → Result Ended Fault → Type 0
FilesBy files m after (Ok how) = after ≡ Some (laid files m)
FilesBy files m after (Err why) = PartWritten files m after

-- the report was put; after a fault a first part of it
abbrev pub TextBy : List ℕ → List ℕ → Option (List ℕ) → Result Ended Fault → Type 0
TextBy text before after (Ok how) = after ≡ Some (before ++ text)
TextBy text before after (Err why) = PartPut text before after

-- a read fails only among the lines: the file was begun, and no more than refused lines was put
abbrev pub BegunAtRead : List (List ℕ × List ℕ) → Files → Option Files → Result Ended Fault → Type 0
BegunAtRead files m after (Err fault.Read) = AllBegun files m after
BegunAtRead files m after other = ⊤

abbrev pub UntoldAtRead : List ℕ → List ℕ → Option (List ℕ) → Result Ended Fault → Type 0
UntoldAtRead text before written (Err fault.Read) = PartPut text before written
UntoldAtRead text before written other = ⊤

-- nothing is reported of a packet, and no total, but where the file is whole
abbrev pub TellsLate : List (List ℕ × List ℕ) → List ℕ → Files → Option Files → List ℕ → Option (List ℕ) → Type 0
TellsLate files early m after before written = (after ≡ Some (laid files m)) ⊎ PartPut early before written

pub record RunEnds (pairing : Pairing) (start : Start) (run : JoinRun) (after : Option Files) (written : Option (List ℕ))
    (result : Result Ended Fault) : Type 0 where
  pub ended : EndsAs run result
  pub files : ForSome start.base (λ m. FilesBy (the_files start run) m after result)
  pub text : ForSome start.before (λ before. TextBy (report pairing run) before written result)
  pub late : ForSome start.base (λ m. ForSome start.before (λ before. TellsLate (the_files start run) (refused_texts run) m after before written))
  pub begun : ForSome start.base (λ m. BegunAtRead (the_files start run) m after result)
  pub untold : ForSome start.before (λ before. UntoldAtRead (refused_texts run) before written result)
  pub lawful : AreLawfulIfDone pairing run (outcome_by result)

-- a run into a folder, over these files and behind this text
abbrev pub start_in : List ℕ → Option Files → Option (List ℕ) → Start
start_in folder base before = record { before = before; base = base; names = exits_name folder ∷ [] }
