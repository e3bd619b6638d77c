-- What a script of the flood has reported where all was done.
use Rattle.std.specs.Prelude.{◌≡◌, ℕ, List, ◌++◌, Option, Some, option_map, Ok, ⊤}
use Rattle.mn_edge.specs.Files.{Files, file}
use Rattle.mn_topo.specs.Network.{Network}
use Rattle.mn_topo_toml.specs.Topology.{topology_of}
use Rattle.mn_script.specs.Reading.{lines_of}
use Rattle.mn_flood_laws.specs.Course.{FloodRun}
use Rattle.mn_answer.specs.declared.outcome.Outcome.{Outcome}
use Rattle.mn_answer.specs.declared.outcome.Outcome.TheVariants.{Done}
use Rattle.mn_flood_run.specs.declared.command.FloodLine.{FloodLine}
use Rattle.mn_flood_run.specs.Language.{flood_says}
use Rattle.mn_flood_run.specs.Report.{course_of, report}
use Rattle.mn_flood_run.specs.Laws.{AreSettled, AreDrained}

-- the lines of the file's script are played over a topology, and what was put is the report of that course
pub record TellsScript (topology : Network) (script_name : List ℕ) (files : Files) (before : List ℕ) (written : Option (List ℕ)) : Type 0 where
  pub lines : List FloodLine
  pub run : FloodRun
  pub lines_read : option_map (lines_of (flood_says topology) 1) (file files script_name) ≡ Some (Ok lines)
  pub played : run ≡ course_of topology lines
  pub settled : AreSettled topology run
  pub drained : AreDrained topology lines
  pub told : written ≡ Some (before ++ report topology run)

-- over that of a file
pub record TellsFlood (topology_name script_name : List ℕ) (files : Files) (before : List ℕ) (written : Option (List ℕ)) : Type 0 where
  pub topology : Network
  pub topology_read : option_map topology_of (file files topology_name) ≡ Some (Ok topology)
  pub script : TellsScript topology script_name files before written

-- where all was done
abbrev pub IsScriptTold : Network → List ℕ → Files → List ℕ → Option (List ℕ) → Outcome → Type 0
IsScriptTold topology script_name files before written Done = TellsScript topology script_name files before written
IsScriptTold topology script_name files before written outcome = ⊤

abbrev pub IsFloodTold : List ℕ → List ℕ → Files → List ℕ → Option (List ℕ) → Outcome → Type 0
IsFloodTold topology_name script_name files before written Done = TellsFlood topology_name script_name files before written
IsFloodTold topology_name script_name files before written outcome = ⊤
