-- What a call has told where all was done.
use Rattle.std.proofs.Common.{◌≡◌, ℕ, List, Option, Some, Ok, refl}
use Rattle.std.specs.Prelude.{option_map}
use Rattle.mn_edge.specs.Files.{Files, file}
use Rattle.mn_topo.specs.Network.{Network}
use Rattle.mn_topo_toml.specs.Topology.{topology_of}
use Rattle.mn_script.specs.Reading.{lines_of}
use Rattle.mn_answer.specs.declared.outcome.Outcome.{Outcome}
use Rattle.mn_answer.specs.declared.outcome.Outcome.TheVariants.{Done}
use Rattle.mn_answer.specs.Endings.{TextIs}
use Rattle.mn_flood_run.specs.declared.command.FloodLine.{FloodLine}
use Rattle.mn_flood_run.specs.Language.{flood_says}
use Rattle.mn_flood_run.specs.Report.{course_of}
use Rattle.mn_flood_run.specs.Laws.{AreSettled, AreDrained}
use Rattle.mn_flood_run.specs.Answer.{flood_done}
use Rattle.mn_flood_run.specs.Headline.{IsScriptTold, IsFloodTold}

pub script_told : (topology : Network) (lines : List FloodLine) (script : List ℕ) (files : Files) (before : List ℕ) (written : Option (List ℕ)) (o : Outcome) →
    option_map (lines_of (flood_says topology) 1) (file files script) ≡ Some (Ok lines) → AreSettled topology (course_of topology lines) →
    AreDrained topology lines →
    TextIs (Some (flood_done topology lines)) before written o → IsScriptTold topology script files before written o
script_told topology lines script files before written Done read settled drained text =
    record { lines = lines; run = course_of topology lines; lines_read = read; played = refl; settled = settled; drained = drained; told = text }
script_told topology lines script files before written _ read settled drained text = tt

pub flood_told : (topology : Network) (name script : List ℕ) (files : Files) (before : List ℕ) (written : Option (List ℕ)) (o : Outcome) →
    option_map topology_of (file files name) ≡ Some (Ok topology) → IsScriptTold topology script files before written o →
    IsFloodTold name script files before written o
flood_told topology name script files before written Done read kept = record { topology = topology; topology_read = read; script = kept }
flood_told topology name script files before written _ read kept = tt
