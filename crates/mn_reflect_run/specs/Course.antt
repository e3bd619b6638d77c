-- What a script of reflection does: its lines one after another, what is reported of each, and where a full count of steps stops it.
use Rattle.std.specs.Prelude.{ℕ, zero, suc, Bool, true, false, nat_le, cond, List, [], ◌∷◌, ◌++◌, length, Option, Some, None}
use Rattle.mn_base.specs.Limits.{most_steps}
use Rattle.mn_topo.specs.Network.{Network}
use Rattle.mn_topo.specs.declared.steps.Step.{Step}
use Rattle.mn_ledger.specs.declared.refused.Refused.{Refused}
use Rattle.mn_reflect_ledger_laws.specs.World.{world_of}
use Rattle.mn_reflect_ledger_laws.specs.Refusal.{refusal}
use Rattle.mn_reflect_world_laws.specs.Steps.{first_hearing}
use Rattle.mn_reflect_run.specs.declared.command.ReflectCommand.{ReflectCommand}
use Rattle.mn_reflect_run.specs.declared.command.ReflectCommand.TheVariants as command
use Rattle.mn_reflect_run.specs.declared.command.ReflectLine.{ReflectLine}

-- what is reported in the script's order: a refused line by its number and cause, or the table of a VRF as it stands after these steps
pub data Note : Type 0 where
  Refusal : (line : ℕ) → (cause : Refused) → Note
  Table : (vrf : ℕ) → (steps : List Step) → Note

-- the steps done, what is reported, and whether steps were full
pub record ReflectRun : Type 0 where
  pub steps : List Step
  pub notes : List Note
  pub is_stopped : Bool

abbrev pub first_run : ReflectRun
first_run = record { steps = []; notes = []; is_stopped = false }

-- one step more; where there are as many as there may be, the run stops
abbrev pub stepped : ReflectRun → Step → ReflectRun
stepped run done = cond (nat_le most_steps (length run.steps)) (record run { is_stopped = true }) (record run { steps = run.steps ++ done ∷ [] })

abbrev pub tried : ReflectRun → ℕ → Step → Option Refused → ReflectRun
tried run line done None = stepped run done
tried run line done (Some cause) = record run { notes = run.notes ++ Refusal line cause ∷ [] }

abbrev pub unless_stopped : ReflectRun → (ReflectRun → ReflectRun) → ReflectRun
unless_stopped run on = cond run.is_stopped run (on run)

abbrev pub drained_by : (ReflectRun → ReflectRun) → ReflectRun → Option Step → ReflectRun
drained_by on run None = run
drained_by on run (Some hearing) = unless_stopped (stepped run hearing) on

abbrev pub next_hearing : Network → List ℕ → ReflectRun → Option Step
next_hearing topology reflectors run = first_hearing (world_of topology reflectors run.steps).flying

-- at most so many hearings, the message sent first of all each time
abbrev pub drain_for : ℕ → Network → List ℕ → ReflectRun → ReflectRun
drain_for zero topology reflectors run = run
drain_for (suc more) topology reflectors run =
    drained_by (λ later. drain_for more topology reflectors later) run (next_hearing topology reflectors run)

-- one hearing more than there may be steps, so that no drain without a number ends by this count
unfoldable pub every_hearing : ℕ
every_hearing = 4000001

abbrev pub most_of : Option ℕ → ℕ
most_of None = every_hearing
most_of (Some most) = most

abbrev pub asked : Network → List ℕ → ReflectRun → ℕ → ReflectCommand → ReflectRun
asked topology reflectors run line (command.Do done) = tried run line done (refusal topology (world_of topology reflectors run.steps) done)
asked topology reflectors run line (command.Drain most) = drain_for (most_of most) topology reflectors run
asked topology reflectors run line (command.Show vrf) = record run { notes = run.notes ++ Table vrf.0 run.steps ∷ [] }

abbrev pub after_line : Network → List ℕ → ReflectRun → ReflectLine → ReflectRun
after_line topology reflectors run line = asked topology reflectors run line.number line.command

abbrev pub run_from : Network → List ℕ → ReflectRun → List ReflectLine → ReflectRun
run_from topology reflectors run [] = run
run_from topology reflectors run (line ∷ lines) = unless_stopped (after_line topology reflectors run line) (λ later. run_from topology reflectors later lines)

-- the course of a script's lines, from the start on
abbrev pub run_of : Network → List ℕ → List ReflectLine → ReflectRun
run_of topology reflectors lines = run_from topology reflectors first_run lines
