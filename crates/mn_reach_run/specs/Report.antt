-- What `reach` tells of a topology and a file of failures.
use Rattle.std.specs.Prelude.{ℕ, ◌+◌, Bool, true, false, not, if◌then◌else◌, List, [], ◌∷◌, ◌++◌, length, filter, codes}
use Rattle.std.specs.List.{flat_map}
use Rattle.std.specs.Io.Iter.{u64_saturate}
use Rattle.mn_topo.specs.Network.{Network}
use Rattle.mn_candidates.specs.declared.pairs.Pair.{Pair}
use Rattle.mn_candidates.specs.Pairs.{pairs_of}
use Rattle.mn_failures.specs.declared.command.Part.{Part}
use Rattle.mn_failures.specs.declared.command.Resolve.TheVariants.{AsTopology}
use Rattle.mn_failures.specs.declared.command.FailureCommand.{FailureCommand}
use Rattle.mn_failures.specs.declared.command.FailureCommand.TheVariants as command
use Rattle.mn_failures.specs.declared.command.FailureLine.{FailureLine}
use Rattle.mn_failures.specs.Failures.{failures_of}
use Rattle.mn_reach_run.specs.declared.settings.Settings.{Settings}
use Rattle.mn_reach_run.specs.declared.sums.Sums.{Sums}
use Rattle.mn_reach_run.specs.Fates.{fate_of, change_of, is_lost, is_moved}
use Rattle.mn_reach_run.specs.Lines.{pair_line, change_line, failure_text, changes_count_text, profile_line, total_line}

-- 1. Settings

-- TTL 64, each loss is told, sessions stay, and next hops are resolved as the topology says
abbrev pub first_settings : Settings
first_settings = record { ttl = 64; counts = false; ends = false; resolve = AsTopology }

-- the command says how failures are reported from there on; else it stands for failures
abbrev pub is_setting : FailureCommand → Bool
is_setting (command.Fail parts) = false
is_setting (command.Each each) = false
is_setting _ = true

abbrev pub settings_after : Settings → FailureCommand → Settings
settings_after settings (command.Sessions end) = record settings { ends = end }
settings_after settings (command.Resolve resolve) = record settings { resolve = resolve }
settings_after settings command.Losses = record settings { counts = false }
settings_after settings command.Counts = record settings { counts = true }
settings_after settings (command.Ttl ttl) = record settings { ttl = ttl }
settings_after settings _ = settings

-- 2. What is told at once: of all pairs with nothing failed, or of one failure, by its number, its line and its parts

pub data Task : Type 0 where
  Whole : (settings : Settings) → Task
  Under : (settings : Settings) → (number : ℕ) → (line : ℕ) → (parts : List Part) → Task

abbrev pub whole_text : Network → Settings → List ℕ
whole_text topology settings =
    profile_line settings.resolve settings.ends ++ flat_map (λ pair. pair_line topology pair (fate_of topology settings [] pair)) (pairs_of topology)

-- how many pairs of these are lost, and how many are moved
abbrev pub lost_among : Network → Settings → List Part → List Pair → ℕ
lost_among topology settings parts pairs = length (filter (λ pair. is_lost (change_of topology settings parts pair)) pairs)

abbrev pub moved_among : Network → Settings → List Part → List Pair → ℕ
moved_among topology settings parts pairs = length (filter (λ pair. is_moved (change_of topology settings parts pair)) pairs)

-- the lines of those that are lost or moved
abbrev pub change_at : Network → Settings → ℕ → List Part → Pair → List ℕ
change_at topology settings number parts pair = change_line topology number pair (change_of topology settings parts pair) (fate_of topology settings parts pair)

abbrev pub under_text : Network → Settings → ℕ → ℕ → List Part → List ℕ
under_text topology settings number line parts =
    if settings.counts then failure_text topology number line parts
    ++ changes_count_text (lost_among topology settings parts (pairs_of topology)) (moved_among topology settings parts (pairs_of topology))
    else (failure_text topology number line parts ++ codes "\n") ++ flat_map (change_at topology settings number parts) (pairs_of topology)

abbrev pub task_text : Network → Task → List ℕ
task_text topology (Whole settings) = whole_text topology settings
task_text topology (Under settings number line parts) = under_text topology settings number line parts

abbrev pub tasks_text : Network → List Task → List ℕ
tasks_text topology tasks = flat_map (task_text topology) tasks

-- 3. Counts: failures, verdicts, and pairs that were lost and moved

abbrev pub no_sums : Sums
no_sums = record { failures = 0; verdicts = 0; lost = 0; moved = 0 }

abbrev pub plus : Sums → Sums → Sums
plus a b = record {
  failures = a.failures + b.failures;
  verdicts = a.verdicts + b.verdicts;
  lost = a.lost + b.lost;
  moved = a.moved + b.moved;
}

abbrev pub sums_of : Network → Task → Sums
sums_of topology (Whole settings) = no_sums
sums_of topology (Under settings number line parts) = record {
  failures = 1;
  verdicts = length (pairs_of topology);
  lost = lost_among topology settings parts (pairs_of topology);
  moved = moved_among topology settings parts (pairs_of topology);
}

abbrev pub sums_in : Network → List Task → Sums
sums_in topology [] = no_sums
sums_in topology (task ∷ tasks) = plus (sums_of topology task) (sums_in topology tasks)

-- each at most 2^64 - 1
abbrev pub capped : Sums → Sums
capped sums = record {
  failures = u64_saturate sums.failures;
  verdicts = u64_saturate sums.verdicts;
  lost = u64_saturate sums.lost;
  moved = u64_saturate sums.moved;
}

-- 4. The tasks of a file

-- the failures of a line, numbered on behind those before
abbrev pub numbered : Settings → ℕ → ℕ → List (List Part) → List Task
numbered settings number line [] = []
numbered settings number line (parts ∷ failures) = Under settings (number + 1) line parts ∷ numbered settings (number + 1) line failures

-- how failures are reported, whether all pairs were told so with nothing failed, and how many failures there were
pub record Stage : Type 0 where
  pub settings : Settings
  pub is_told : Bool
  pub failures : ℕ

abbrev pub first_stage : Stage
first_stage = record { settings = first_settings; is_told = false; failures = 0 }

-- all pairs with nothing failed, where they weren't told so
abbrev pub whole_if_new : Stage → List Task
whole_if_new stage = if stage.is_told then [] else Whole stage.settings ∷ []

abbrev pub tasks_of_line : Network → Stage → FailureLine → List Task
tasks_of_line topology stage line =
    if is_setting line.command then []
    else whole_if_new stage ++ numbered stage.settings stage.failures line.number (failures_of topology line.command)

abbrev pub stage_after : Network → Stage → FailureLine → Stage
stage_after topology stage line = record {
  settings = settings_after stage.settings line.command;
  is_told = not (is_setting line.command);
  failures = stage.failures + length (failures_of topology line.command);
}

-- behind the last line all pairs are told, where they weren't
abbrev pub tasks_from : Network → Stage → List FailureLine → List Task
tasks_from topology stage [] = whole_if_new stage
tasks_from topology stage (line ∷ lines) = tasks_of_line topology stage line ++ tasks_from topology (stage_after topology stage line) lines

abbrev pub tasks_of : Network → List FailureLine → List Task
tasks_of topology lines = tasks_from topology first_stage lines

-- 5. The whole report

abbrev pub totals_text : Network → Sums → List ℕ
totals_text topology sums = total_line (length (pairs_of topology)) sums.failures sums.verdicts sums.lost sums.moved

abbrev pub report : Network → List FailureLine → List ℕ
report topology lines = tasks_text topology (tasks_of topology lines) ++ totals_text topology (sums_in topology (tasks_of topology lines))
