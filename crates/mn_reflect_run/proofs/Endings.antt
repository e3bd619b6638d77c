-- How a call ends.
use Rattle.std.proofs.Common.{◌≡◌, ℕ, Bool, true, false, cond, List, ◌++◌, Option, Some, Ok, refl, sym, ◌∙◌, ap, subst}
use Rattle.std.specs.Prelude.{option_map}
use Rattle.mn_base.specs.Limits.{most_steps}
use Rattle.mn_edge.specs.Files.{Files, file}
use Rattle.mn_topo.specs.Network.{Network}
use Rattle.mn_topo_toml.specs.Topology.{topology_of}
use Rattle.mn_answer.specs.declared.outcome.Limit.TheVariants.{Steps}
use Rattle.mn_answer.specs.declared.outcome.Outcome.{Outcome}
use Rattle.mn_answer.specs.declared.outcome.Outcome.TheVariants.{Done, Usage, ReadFault, WriteFault, NoMemory, BadTopology, BadScript, BadCapture, BadSecond}
use Rattle.mn_answer.specs.declared.outcome.Outcome.TheVariants.{BadJoints, TooLarge}
use Rattle.mn_answer.specs.Endings.{OutcomeIs, TextIs, SinkCausedBy}
use Rattle.mn_reflect_telling.specs.Mentions.{numbers_of}
use Rattle.mn_reflect_run.specs.Language.{Script, script_of}
use Rattle.mn_reflect_run.specs.Course.{ReflectRun}
use Rattle.mn_reflect_run.specs.Report.{course_of, report}
use Rattle.mn_reflect_run.specs.Laws.{AreOfTheMesh, AreDrained}
use Rattle.mn_reflect_run.specs.Answer.{outcome_of, told, reflect_done}
use Rattle.mn_reflect_run.specs.Headline.{IsScriptTold, IsReflectTold}

-- 1. The outcome of a course

module _ (topology : Network) (reflectors : List ℕ) (run : ReflectRun) where
  by_end : (b : Bool) → run.is_stopped ≡ b → OutcomeIs (Some (told topology reflectors run)) (cond b (TooLarge Steps most_steps) Done)
  by_end true e = ap (λ b. cond b (TooLarge Steps most_steps) Done) e
  by_end false e = ap (λ b. cond b (TooLarge Steps most_steps) Done) e

  pub outcome_told : (outcome : Outcome) → outcome ≡ outcome_of run → OutcomeIs (Some (told topology reflectors run)) outcome
  outcome_told outcome is = subst (OutcomeIs (Some (told topology reflectors run))) (sym is) (by_end run.is_stopped refl)

  text_by : (b : Bool) (before : List ℕ) (written : Option (List ℕ)) → written ≡ Some (before ++ report topology reflectors run) →
      TextIs (Some (told topology reflectors run)) before written (cond b (TooLarge Steps most_steps) Done)
  text_by true before written e = e
  text_by false before written e = e

  pub text_told : (outcome : Outcome) (before : List ℕ) (written : Option (List ℕ)) → outcome ≡ outcome_of run →
      written ≡ Some (before ++ report topology reflectors run) →
      TextIs (Some (told topology reflectors run)) before written outcome
  text_told outcome before written is e = subst (TextIs (Some (told topology reflectors run)) before written) (sym is) (text_by run.is_stopped before written e)

  cause_by : (b : Bool) (old new : Option ℕ) → new ≡ old → SinkCausedBy old new (cond b (TooLarge Steps most_steps) Done)
  cause_by true old new e = (refl, refl, e)
  cause_by false old new e = (refl, refl, e)

  pub cause_told : (outcome : Outcome) (old new : Option ℕ) → outcome ≡ outcome_of run → new ≡ old → SinkCausedBy old new outcome
  cause_told outcome old new is e = subst (SinkCausedBy old new) (sym is) (cause_by run.is_stopped old new e)

  usage_by : (b : Bool) → cond b (TooLarge Steps most_steps) Done ≡ Usage → ⊥
  usage_by true e = cc
  usage_by false e = cc

  pub no_usage : (outcome : Outcome) → outcome ≡ outcome_of run → outcome ≡ Usage → ⊥
  no_usage outcome is e = usage_by run.is_stopped (sym is ∙ e)

-- 2. What is told where all was done

pub script_told : (topology : Network) (script : Script) (name : List ℕ) (files : Files) (before : List ℕ) (written : Option (List ℕ)) (o : Outcome) →
    option_map (script_of topology) (file files name) ≡ Some (Ok script) → AreOfTheMesh topology (numbers_of script.reflectors) (course_of topology script) →
    AreDrained topology script → TextIs (Some (reflect_done topology script)) before written o → IsScriptTold topology name files before written o
script_told topology script name files before written Done read mesh drained text =
    record { script = script; run = course_of topology script; script_read = read; played = refl; mesh = mesh; drained = drained; told = text }
script_told topology script name files before written Usage read mesh drained text = tt
script_told topology script name files before written ReadFault read mesh drained text = tt
script_told topology script name files before written WriteFault read mesh drained text = tt
script_told topology script name files before written NoMemory read mesh drained text = tt
script_told topology script name files before written (BadTopology rule place) read mesh drained text = tt
script_told topology script name files before written (BadScript rule line) read mesh drained text = tt
script_told topology script name files before written (BadCapture rule place) read mesh drained text = tt
script_told topology script name files before written (BadSecond rule place) read mesh drained text = tt
script_told topology script name files before written (BadJoints rule line) read mesh drained text = tt
script_told topology script name files before written (TooLarge which limit) read mesh drained text = tt

pub script_undone : (topology : Network) (script : List ℕ) (files : Files) (before : List ℕ) (written : Option (List ℕ)) (o : Outcome) → (o ≡ Done → ⊥) →
    IsScriptTold topology script files before written o
script_undone topology script files before written Done not = absurd (not refl)
script_undone topology script files before written Usage not = tt
script_undone topology script files before written ReadFault not = tt
script_undone topology script files before written WriteFault not = tt
script_undone topology script files before written NoMemory not = tt
script_undone topology script files before written (BadTopology rule place) not = tt
script_undone topology script files before written (BadScript rule line) not = tt
script_undone topology script files before written (BadCapture rule place) not = tt
script_undone topology script files before written (BadSecond rule place) not = tt
script_undone topology script files before written (BadJoints rule line) not = tt
script_undone topology script files before written (TooLarge which limit) not = tt

pub reflect_told : (topology : Network) (name script : List ℕ) (files : Files) (before : List ℕ) (written : Option (List ℕ)) (o : Outcome) →
    option_map topology_of (file files name) ≡ Some (Ok topology) → IsScriptTold topology script files before written o →
    IsReflectTold name script files before written o
reflect_told topology name script files before written Done read kept = record { topology = topology; topology_read = read; script = kept }
reflect_told topology name script files before written Usage read kept = tt
reflect_told topology name script files before written ReadFault read kept = tt
reflect_told topology name script files before written WriteFault read kept = tt
reflect_told topology name script files before written NoMemory read kept = tt
reflect_told topology name script files before written (BadTopology rule place) read kept = tt
reflect_told topology name script files before written (BadScript rule line) read kept = tt
reflect_told topology name script files before written (BadCapture rule place) read kept = tt
reflect_told topology name script files before written (BadSecond rule place) read kept = tt
reflect_told topology name script files before written (BadJoints rule line) read kept = tt
reflect_told topology name script files before written (TooLarge which limit) read kept = tt

pub reflect_undone : (name script : List ℕ) (files : Files) (before : List ℕ) (written : Option (List ℕ)) (o : Outcome) → (o ≡ Done → ⊥) →
    IsReflectTold name script files before written o
reflect_undone name script files before written Done not = absurd (not refl)
reflect_undone name script files before written Usage not = tt
reflect_undone name script files before written ReadFault not = tt
reflect_undone name script files before written WriteFault not = tt
reflect_undone name script files before written NoMemory not = tt
reflect_undone name script files before written (BadTopology rule place) not = tt
reflect_undone name script files before written (BadScript rule line) not = tt
reflect_undone name script files before written (BadCapture rule place) not = tt
reflect_undone name script files before written (BadSecond rule place) not = tt
reflect_undone name script files before written (BadJoints rule line) not = tt
reflect_undone name script files before written (TooLarge which limit) not = tt
