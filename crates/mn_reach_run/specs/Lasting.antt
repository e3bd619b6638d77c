-- What lasts from line to line of a file of failures.
use Rattle.std.specs.Prelude.{◌≡◌, ◌≤◌, ℕ, Bool, true, false, not, List, [], ◌++◌, drop}
use Rattle.mn_topo.specs.Network.{Network}
use Rattle.mn_tables.specs.Telling.{Stand}
use Rattle.mn_failures.specs.declared.command.FailureLine.{FailureLine}
use Rattle.mn_reach_run.specs.declared.found.Found.{Found}
use Rattle.mn_reach_run.specs.declared.play.Manner.{Manner}
use Rattle.mn_reach_run.specs.Report.{Task, Stage, first_settings, is_setting, settings_after, sums_in, tasks_from, tasks_of}
use Rattle.mn_reach_run.specs.Playing.{HaveFailed, IsReady, IsKnown, Now, IsAfter}

-- before the first line
abbrev pub first_manner : Manner
first_manner = record { settings = first_settings; is_told = false }

-- behind so many failures
abbrev pub stage_of : Manner → ℕ → Stage
stage_of manner number = record { settings = manner.settings; is_told = manner.is_told; failures = number }

abbrev pub manner_after : Manner → FailureLine → Manner
manner_after manner line = record { settings = settings_after manner.settings line.command; is_told = not (is_setting line.command) }

-- nothing has failed; and what becomes of each pair is known where it was told
pub record Lasts (topology : Network) (manner : Manner) (found : Found) : Type 0 where
  pub ready : IsReady topology found.reach
  pub least : 2 ≤ manner.settings.ttl
  pub most : manner.settings.ttl ≤ 255
  pub whole : (ends : Bool) × HaveFailed topology ends [] found.reach
  pub known : manner.is_told ≡ true → IsKnown topology manner.settings [] found

-- before the line of this place
pub record IsAt (topology : Network) (lines : List FailureLine) (place : ℕ) (manner : Manner) (found : Found) (start : Stand) (now : Now) : Type 0 where
  pub tasks : List Task
  pub after : IsAfter topology tasks start now
  pub left : tasks ++ tasks_from topology (stage_of manner (sums_in topology tasks).failures) (drop place lines) ≡ tasks_of topology lines
  pub lasts : Lasts topology manner found
