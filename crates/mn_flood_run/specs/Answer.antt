-- What `flood TOPOLOGY SCRIPT` is to answer.
use Rattle.std.specs.Prelude.{ℕ, cond, List, [], Option, Some}
use Rattle.mn_base.specs.Limits.{most_steps}
use Rattle.mn_edge.specs.Files.{Files, file}
use Rattle.mn_topo.specs.Network.{Network}
use Rattle.mn_flood_laws.specs.Course.{FloodRun}
use Rattle.mn_answer.specs.declared.outcome.Limit.TheVariants.{Steps}
use Rattle.mn_answer.specs.declared.outcome.Outcome.{Outcome}
use Rattle.mn_answer.specs.declared.outcome.Outcome.TheVariants.{Done, TooLarge}
use Rattle.mn_answer.specs.Answer.{Answer, with_topology, with_lines_of}
use Rattle.mn_flood_run.specs.declared.command.FloodLine.{FloodLine}
use Rattle.mn_flood_run.specs.Language.{flood_says}
use Rattle.mn_flood_run.specs.Report.{report, course_of}

abbrev pub outcome_of : FloodRun → Outcome
outcome_of run = cond run.is_stopped (TooLarge Steps most_steps) Done

-- a course is told by its report; no file is written
abbrev pub told : Network → FloodRun → Answer
told topology run = record { outcome = outcome_of run; files = []; running = []; early = report topology run; text = report topology run }

abbrev pub flood_done : Network → List FloodLine → Answer
flood_done topology lines = told topology (course_of topology lines)

-- a script that is read is played from its first line on, over the topology
abbrev pub flood_over : Files → List ℕ → Network → Option Answer
flood_over files script topology = with_lines_of (flood_says topology) (file files script) (λ lines. Some (flood_done topology lines))

abbrev pub flood_answer : List ℕ → List ℕ → Files → Option Answer
flood_answer topology script files = with_topology (file files topology) (flood_over files script)
