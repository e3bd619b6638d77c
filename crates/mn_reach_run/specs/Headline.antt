-- What `reach` has told where all was done.
use Rattle.std.specs.Prelude.{◌≡◌, ℕ, Bool, List, [], ◌++◌, Option, Some, None, option_map, Ok, ⊤}
use Rattle.mn_edge.specs.Files.{Files, file}
use Rattle.mn_topo.specs.Network.{Network}
use Rattle.mn_topo_toml.specs.Topology.{topology_of}
use Rattle.mn_script.specs.Reading.{lines_of}
use Rattle.mn_failure_laws.specs.Fates.{AllComeToTheirFates}
use Rattle.mn_failures.specs.declared.command.FailureLine.{FailureLine}
use Rattle.mn_failures.specs.declared.command.Part.{Part}
use Rattle.mn_failures.specs.declared.command.Resolve.{Resolve}
use Rattle.mn_failures.specs.Language.{failure_says}
use Rattle.mn_answer.specs.declared.outcome.Outcome.{Outcome}
use Rattle.mn_answer.specs.declared.outcome.Outcome.TheVariants.{Done}
use Rattle.mn_reach_run.specs.Fates.{failure_under, network_by}
use Rattle.mn_reach_run.specs.Report.{report}

-- the lines are those of the file, and none where no file is named
abbrev pub AreRead : Network → Option (List ℕ) → Files → List FailureLine → Type 0
AreRead topology None files lines = lines ≡ []
AreRead topology (Some failures) files lines = option_map (lines_of (failure_says topology) 1) (file files failures) ≡ Some (Ok lines)

-- what was put is the report of these lines, whose verdicts are fates under parts that fail; and in every lawful journal of the network,
-- with its key of resolution as it is or as a line sets it, that is at rest under such parts each packet that is sent comes to its fate
pub record TellsFailures (topology : Network) (failures : Option (List ℕ)) (files : Files) (before : List ℕ) (written : Option (List ℕ)) : Type 0 where
  pub lines : List FailureLine
  pub lines_read : AreRead topology failures files lines
  pub fates : (resolve : Resolve) (ends : Bool) (parts : List Part) → AllComeToTheirFates (network_by topology resolve) (failure_under topology ends parts)
  pub told : written ≡ Some (before ++ report topology lines)

-- of a topology from its file
pub record TellsReach (topology_name : List ℕ) (failures : Option (List ℕ)) (files : Files) (before : List ℕ) (written : Option (List ℕ)) : Type 0 where
  pub topology : Network
  pub topology_read : option_map topology_of (file files topology_name) ≡ Some (Ok topology)
  pub tells : TellsFailures topology failures files before written

-- where all was done
abbrev pub AreFailuresTold : Network → Option (List ℕ) → Files → List ℕ → Option (List ℕ) → Outcome → Type 0
AreFailuresTold topology failures files before written Done = TellsFailures topology failures files before written
AreFailuresTold topology failures files before written outcome = ⊤

abbrev pub IsReachTold : List ℕ → Option (List ℕ) → Files → List ℕ → Option (List ℕ) → Outcome → Type 0
IsReachTold topology_name failures files before written Done = TellsReach topology_name failures files before written
IsReachTold topology_name failures files before written outcome = ⊤
