-- What a script of reflected routes has reported where all was done.
use Rattle.std.specs.Prelude.{◌≡◌, ℕ, List, ◌++◌, Option, Some, option_map, Ok, ⊤}
use Rattle.mn_edge.specs.Files.{Files, file}
use Rattle.mn_topo.specs.Network.{Network}
use Rattle.mn_topo_toml.specs.Topology.{topology_of}
use Rattle.mn_answer.specs.declared.outcome.Outcome.{Outcome}
use Rattle.mn_answer.specs.declared.outcome.Outcome.TheVariants.{Done}
use Rattle.mn_reflect_telling.specs.Mentions.{numbers_of}
use Rattle.mn_reflect_run.specs.Language.{Script, script_of}
use Rattle.mn_reflect_run.specs.Course.{ReflectRun}
use Rattle.mn_reflect_run.specs.Report.{course_of, report}
use Rattle.mn_reflect_run.specs.Laws.{AreOfTheMesh, AreDrained}

-- the lines of the file's script are played over a topology, and what was put is the report of that course
pub record TellsScript (topology : Network) (script_name : List ℕ) (files : Files) (before : List ℕ) (written : Option (List ℕ)) : Type 0 where
  pub script : Script
  pub run : ReflectRun
  pub script_read : option_map (script_of topology) (file files script_name) ≡ Some (Ok script)
  pub played : run ≡ course_of topology script
  pub mesh : AreOfTheMesh topology (numbers_of script.reflectors) run
  pub drained : AreDrained topology script
  pub told : written ≡ Some (before ++ report topology (numbers_of script.reflectors) run)

-- over that of a file
pub record TellsReflect (topology_name script_name : List ℕ) (files : Files) (before : List ℕ) (written : Option (List ℕ)) : Type 0 where
  pub topology : Network
  pub topology_read : option_map topology_of (file files topology_name) ≡ Some (Ok topology)
  pub script : TellsScript topology script_name files before written

-- where all was done
abbrev pub IsScriptTold : Network → List ℕ → Files → List ℕ → Option (List ℕ) → Outcome → Type 0
IsScriptTold topology script_name files before written Done = TellsScript topology script_name files before written
IsScriptTold topology script_name files before written outcome = ⊤

abbrev pub IsReflectTold : List ℕ → List ℕ → Files → List ℕ → Option (List ℕ) → Outcome → Type 0
IsReflectTold topology_name script_name files before written Done = TellsReflect topology_name script_name files before written
IsReflectTold topology_name script_name files before written outcome = ⊤
