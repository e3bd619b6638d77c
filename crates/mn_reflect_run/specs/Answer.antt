-- What `reflect TOPOLOGY SCRIPT` is to answer.
use Rattle.std.specs.Prelude.{◌≡◌, ◌≤◌, ℕ, cond, List, [], length, Option, Some, option_map, Result, Ok, Err, ⊤}
use Rattle.mn_base.specs.Limits.{most_steps, most_script_lines}
use Rattle.mn_edge.specs.Files.{Files, file}
use Rattle.mn_topo.specs.Network.{Network}
use Rattle.mn_answer.specs.declared.outcome.Limit.TheVariants.{Steps}
use Rattle.mn_answer.specs.declared.outcome.Outcome.{Outcome}
use Rattle.mn_answer.specs.declared.outcome.Outcome.TheVariants.{Done, TooLarge}
use Rattle.mn_answer.specs.Answer.{Answer, refusal_of, with_topology, with_script_of}
use Rattle.mn_reflect_telling.specs.Mentions.{numbers_of}
use Rattle.mn_reflect_run.specs.Language.{Script, script_of}
use Rattle.mn_reflect_run.specs.Reading.{IsLawfulScript}
use Rattle.mn_reflect_run.specs.Course.{ReflectRun}
use Rattle.mn_reflect_run.specs.Report.{report, course_of}

abbrev pub outcome_of : ReflectRun → Outcome
outcome_of run = cond run.is_stopped (TooLarge Steps most_steps) Done

-- a course is told by its report; no file is written
abbrev pub told : Network → List ℕ → ReflectRun → Answer
told topology reflectors run =
    record { outcome = outcome_of run; files = []; running = []; early = report topology reflectors run; text = report topology reflectors run }

abbrev pub reflect_done : Network → Script → Answer
reflect_done topology script = told topology (numbers_of script.reflectors) (course_of topology script)

-- a script that is read is played from its first line on, over the topology
abbrev pub reflect_over : Files → List ℕ → Network → Option Answer
reflect_over files script topology = with_script_of (script_of topology) (file files script) (λ read. Some (reflect_done topology read))

abbrev pub reflect_answer : List ℕ → List ℕ → Files → Option Answer
reflect_answer topology script files = with_topology (file files topology) (reflect_over files script)

-- what follows a script follows this one, or its refusal is the answer
abbrev pub ScriptIs : Network → Option (List ℕ) → Result Script Outcome → Type 0
ScriptIs topology input (Ok script) =
    (option_map (script_of topology) input ≡ Some (Ok script))
    × ((next : Script → Option Answer) → with_script_of (script_of topology) input next ≡ next script)
ScriptIs topology input (Err outcome) = (next : Script → Option Answer) → with_script_of (script_of topology) input next ≡ Some (refusal_of outcome)

-- it is lawful, and its lines are few, also where the shelf tells no content
abbrev pub ScriptFits : Network → Result Script Outcome → Type 0
ScriptFits topology (Ok script) = IsLawfulScript topology script × (length script.lines ≤ most_script_lines)
ScriptFits topology (Err outcome) = ⊤
