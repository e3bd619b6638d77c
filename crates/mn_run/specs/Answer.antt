-- What a call is to answer: how it ends, which files it writes, and what it puts.
use Rattle.std.specs.Prelude.{ℕ, cond, List, [], ◌∷◌, length, Option, Some, codes}
use Rattle.std.specs.Fmt.{decimal}
use Rattle.mn_base.specs.Limits.{most_steps}
use Rattle.mn_edge.specs.Files.{Files, file}
use Rattle.mn_course_laws.specs.Expansion.{Expansion, expanded}
use Rattle.mn_gen.specs.Topology.{topology_text}
use Rattle.mn_gen.specs.Script.{script_text}
use Rattle.mn_gen.specs.Capture.{capture_bytes}
use Rattle.mn_lines.specs.Lines.{text}
use Rattle.mn_output_laws.specs.Report.{RunAnswer}
use Rattle.mn_output_laws.specs.Report as output
use Rattle.mn_join_run.specs.Running.{notes_text}
use Rattle.mn_join_run.specs.Whole.{running}
use Rattle.mn_join_run.specs.Total.{total_text}
use Rattle.mn_script.specs.declared.command.Line.{Line}
use Rattle.mn_script.specs.Script.{command_says}
use Rattle.mn_topo.specs.Network.{Network}
use Rattle.mn_topo.specs.SiteTable.{statics_of}
use Rattle.mn_answer.specs.declared.outcome.Limit.TheVariants.{Steps}
use Rattle.mn_answer.specs.declared.outcome.Outcome.TheVariants.{Done, Usage, TooLarge}
use Rattle.mn_answer.specs.Answer.{Answer, refusal_of, with_topology_bytes, with_topology, with_lines_of_bytes, with_lines_of, with_capture_bytes, with_capture}
use Rattle.mn_flood_run.specs.Answer.{flood_answer}
use Rattle.mn_reflect_run.specs.Answer.{reflect_answer}
use Rattle.mn_join_run.specs.Answer.{join_answer}
use Rattle.mn_reach_run.specs.Answer.{reach_answer}
use Rattle.mn_run.specs.declared.words.Job.{Job}
use Rattle.mn_run.specs.declared.words.Job.TheVariants.{Run, Check, Flood, Reflect, Join, Reach, Generate, Nothing}
use Rattle.mn_run.specs.Words.{word, failures_name, job_of}

-- what a run leaves and puts: refused lines and tables come early; where its journal was full it is too large, and its files are
-- whole
unfoldable pub run_done : List ℕ → Network → List Line → List (List ℕ) → Answer
run_done folder topology script packets =
    let run : RunAnswer = output.run_answer folder topology script packets in
    record {
      outcome = cond run.is_too_large (TooLarge Steps most_steps) Done;
      files = run.files;
      running = running folder topology packets (expanded topology packets script).past.entries;
      early = notes_text topology packets (expanded topology packets script);
      text = run.text;
    }

-- a script goes on with its lines, or its refusal is the answer
abbrev pub with_script_bytes : Network → List ℕ → (List Line → Option Answer) → Option Answer
with_script_bytes topology bytes next = with_lines_of_bytes (command_says topology) bytes next

abbrev pub with_script : Network → Option (List ℕ) → (List Line → Option Answer) → Option Answer
with_script topology input next = with_lines_of (command_says topology) input next

-- the answer to a run over a topology, and over the files of these names
abbrev pub answer_over : List ℕ → Files → List ℕ → List ℕ → Network → Option Answer
answer_over folder files script capture topology =
    with_script topology (file files script) (λ lines. with_capture (file files capture) (λ packets. Some (run_done folder topology lines packets)))

abbrev pub run_over : List ℕ → List ℕ → List ℕ → List ℕ → Files → Option Answer
run_over topology script capture folder files = with_topology (file files topology) (answer_over folder files script capture)

abbrev pub run_answer : List (List ℕ) → Files → Option Answer
run_answer words files = run_over (word words 1) (word words 2) (word words 3) (word words 4) files

-- how many nodes, links, VRFs, sites and prefixes a topology has
unfoldable pub check_line : Network → List ℕ
check_line topology =
    text (codes "topology ok nodes " ∷ decimal (length topology.loopbacks) ∷ codes " links " ∷ decimal (length topology.links) ∷ codes " vrfs "
    ∷ decimal (length topology.vrfs) ∷ codes " sites " ∷ decimal (length topology.sites) ∷ codes " prefixes " ∷ decimal (length (statics_of topology.sites))
    ∷ codes "\n" ∷ [])

-- the topology was read
abbrev pub checked : Network → Answer
checked topology = record { outcome = Done; files = []; running = []; early = []; text = check_line topology }

-- the answer to a check
abbrev pub check_answer : List (List ℕ) → Files → Option Answer
check_answer words files = with_topology (file files (word words 1)) (λ topology. Some (checked topology))

-- the generator's inputs are played without files: its number is put, and what all came to
abbrev pub generated_line : ℕ → List ℕ
generated_line number = text (codes "generated " ∷ decimal number ∷ codes "\n" ∷ [])

unfoldable pub generated_done : ℕ → Network → List Line → List (List ℕ) → Answer
generated_done number topology script packets =
    let run : Expansion = expanded topology packets script in
    record {
      outcome = cond run.is_stopped (TooLarge Steps most_steps) Done;
      files = [];
      running = [];
      early = [];
      text = total_text (generated_line number) topology packets run;
    }

-- the answer to the generator's number over a topology, and by its own
abbrev pub generated_over : ℕ → Network → Option Answer
generated_over number topology =
    with_script_bytes topology (script_text number)
    (λ script. with_capture_bytes (capture_bytes number) (λ packets. Some (generated_done number topology script packets)))

unfoldable pub generated : ℕ → Option Answer
generated number = with_topology_bytes (topology_text number) (generated_over number)

-- what a job is answered over these files; there is no answer where an input that is needed isn't there
abbrev pub job_answer : Job → List (List ℕ) → Files → Option Answer
job_answer Run words files = run_answer words files
job_answer Check words files = check_answer words files
job_answer Flood words files = flood_answer (word words 1) (word words 2) files
job_answer Reflect words files = reflect_answer (word words 1) (word words 2) files
job_answer Join words files = join_answer (word words 1) (word words 2) (word words 3) (word words 4) (word words 5) (word words 6) files
job_answer Reach words files = reach_answer (word words 1) (failures_name words) files
job_answer (Generate number) words files = generated number
job_answer Nothing words files = Some (refusal_of Usage)

-- what the words are answered over these files
abbrev pub answer_of : List (List ℕ) → Files → Option Answer
answer_of words files = job_answer (job_of words) words files
