-- How a call ends for a job.
use Rattle.std.proofs.Common.{◌≡◌, ◌≤◌, ℕ, List, length, Option, Some, Ok, refl, sym, ◌∙◌, ap, subst}
use Rattle.std.specs.Option.{ForSome}
use Rattle.mn_base.specs.Limits.{most_script_lines}
use Rattle.mn_edge.specs.Files.{Files, file}
use Rattle.mn_topo.specs.Network.{Network}
use Rattle.mn_topo.specs.Lawful.{IsLawful}
use Rattle.mn_script.specs.Script.{AllFit}
use Rattle.mn_capture.specs.Packets.{packets_in}
use Rattle.mn_answer.specs.declared.outcome.Outcome.{Outcome}
use Rattle.mn_answer.specs.declared.outcome.Outcome.TheVariants.{Done, Usage, ReadFault, NoMemory}
use Rattle.mn_answer.specs.Answer.{refusal_of}
use Rattle.mn_answer.specs.Endings.{Answers, OutcomeIs, TextIs, SinkCausedBy}
use Rattle.mn_answer.specs.Inputs.{TopologyIs}
use Rattle.mn_answer.proofs.Ending.{sink_answers, fault_answers, memory_answers}
use Rattle.mn_flood_run.specs.Answer.{flood_answer}
use Rattle.mn_flood_run.specs.Headline.{IsFloodTold}
use Rattle.mn_reflect_run.specs.Answer.{reflect_answer}
use Rattle.mn_reflect_run.specs.Headline.{IsReflectTold}
use Rattle.mn_reach_run.specs.Answer.{reach_answer}
use Rattle.mn_reach_run.specs.Headline.{IsReachTold}
use Rattle.mn_join_run.specs.Answer.{join_answer}
use Rattle.mn_join_run.specs.Headline.{IsJoinTold}
use Rattle.mn_run.specs.declared.load.Inputs.{Inputs}
use Rattle.mn_run.specs.declared.words.Job.{Job}
use Rattle.mn_run.specs.declared.words.Job.TheVariants.{Run, Check, Flood, Reflect, Join, Reach, Generate, Nothing}
use Rattle.mn_run.specs.Words.{word, failures_name}
use Rattle.mn_run.specs.Answer.{job_answer, run_done, checked, generated}
use Rattle.mn_run.specs.Jobs.{AreRead, ForDone}
use Rattle.mn_run.specs.Headline.{IsGenerated, Ends}
use Rattle.mn_run.proofs.Accounting.{kept, undone, topology_told, flood_kept, reflect_kept, reach_kept, join_kept, generated_kept}
use Rattle.mn_run.proofs.Generating.{generated_writes}
use Rattle.mn_run.proofs.Loading.{answer_is}

pub run_makes_none : (number : ℕ) → Run ≡ Generate number → ⊥
run_makes_none number e = cc

pub check_makes_none : (number : ℕ) → Check ≡ Generate number → ⊥
check_makes_none number e = cc

flood_makes_none : (number : ℕ) → Flood ≡ Generate number → ⊥
flood_makes_none number e = cc

reflect_makes_none : (number : ℕ) → Reflect ≡ Generate number → ⊥
reflect_makes_none number e = cc

reach_makes_none : (number : ℕ) → Reach ≡ Generate number → ⊥
reach_makes_none number e = cc

join_makes_none : (number : ℕ) → Join ≡ Generate number → ⊥
join_makes_none number e = cc

nothing_makes_none : (number : ℕ) → Nothing ≡ Generate number → ⊥
nothing_makes_none number e = cc

-- the script was played
pub run_ends : (words : List (List ℕ)) (inputs : Inputs) (files after : Option Files) (before written : Option (List ℕ)) (o : Outcome) →
    ((m : Files) → files ≡ Some m → AreRead (word words 1) (word words 2) (word words 3) m inputs) → inputs.capture.name ≡ word words 3 →
    IsLawful inputs.topology → AllFit inputs.topology inputs.lines.items → length inputs.lines.items ≤ most_script_lines →
    ForDone (λ answer m. Answers answer m after before written o) (word words 4) inputs.topology inputs.lines.items inputs.capture files →
    Ends Run words files after before written o
run_ends words inputs files after before written o read named is_lawful fits few played = record {
  answers = λ m is.
      subst (λ a. Answers a m after before written o) (sym (answer_is (word words 1) (word words 2) (word words 3) m inputs (read m is) (word words 4)))
      (done m is);
  kept = λ m is text begun. kept words m text after written o inputs (read m is) is_lawful fits few (done m is).files_are ((done m is).text_is text begun);
  told = λ number same. absurd (run_makes_none number same);
}
  where
    done : (m : Files) (is : files ≡ Some m) →
        Answers (Some (run_done (word words 4) inputs.topology inputs.lines.items (packets_in inputs.capture (read m is).over.bytes))) m after before written o
    done m is = played m is (read m is).over.bytes (ap (file m) named ∙ (read m is).over.there)

-- the topology was told
pub check_ends : (words : List (List ℕ)) (t : Network) (files after : Option Files) (before written : Option (List ℕ)) (old new : Option ℕ) (o : Outcome) →
    ((m : Files) → files ≡ Some m → TopologyIs (file m (word words 1)) (Ok t)) → after ≡ files →
    OutcomeIs (Some (checked t)) o → ForSome before (λ text. TextIs (Some (checked t)) text written o) → SinkCausedBy old new o →
    Ends Check words files after before written o
check_ends words t files after before written old new o read same outcome text cause = record {
  answers = λ m is.
      subst (λ a. Answers a m after before written o) (sym ((read m is).1 (λ t. Some (checked t))))
      (sink_answers (Some (checked t)) m after before written old new o refl (same ∙ is) outcome text cause);
  kept = λ m is before begun. topology_told words m before after written o t (read m is).0 (same ∙ is) (text before begun);
  told = λ number e. absurd (check_makes_none number e);
}

-- a flood was told
pub flood_ends : (words : List (List ℕ)) (files after : Option Files) (before written : Option (List ℕ)) (o : Outcome) →
    ForSome files (λ m. Answers (flood_answer (word words 1) (word words 2) m) m after before written o) →
    ForSome files (λ m. ForSome before (λ text. IsFloodTold (word words 1) (word words 2) m text written o)) → after ≡ files →
    Ends Flood words files after before written o
flood_ends words files after before written o answers told same = record {
  answers = answers;
  kept = λ m is before begun. flood_kept words m before after written o (told m is before begun) (same ∙ is);
  told = λ number e. absurd (flood_makes_none number e);
}

-- reflected routes were told
pub reflect_ends : (words : List (List ℕ)) (files after : Option Files) (before written : Option (List ℕ)) (o : Outcome) →
    ForSome files (λ m. Answers (reflect_answer (word words 1) (word words 2) m) m after before written o) →
    ForSome files (λ m. ForSome before (λ text. IsReflectTold (word words 1) (word words 2) m text written o)) → after ≡ files →
    Ends Reflect words files after before written o
reflect_ends words files after before written o answers told same = record {
  answers = answers;
  kept = λ m is before begun. reflect_kept words m before after written o (told m is before begun) (same ∙ is);
  told = λ number e. absurd (reflect_makes_none number e);
}

-- failures were told
pub reach_ends : (words : List (List ℕ)) (files after : Option Files) (before written : Option (List ℕ)) (o : Outcome) →
    ForSome files (λ m. Answers (reach_answer (word words 1) (failures_name words) m) m after before written o) →
    ForSome files (λ m. ForSome before (λ text. IsReachTold (word words 1) (failures_name words) m text written o)) → after ≡ files →
    Ends Reach words files after before written o
reach_ends words files after before written o answers told same = record {
  answers = answers;
  kept = λ m is before begun. reach_kept words m before after written o (told m is before begun) (same ∙ is);
  told = λ number e. absurd (reach_makes_none number e);
}

-- two joined networks were told
pub join_ends : (words : List (List ℕ)) (files after : Option Files) (before written : Option (List ℕ)) (o : Outcome) →
    ForSome files (λ m. Answers (join_answer (word words 1) (word words 2) (word words 3) (word words 4) (word words 5) (word words 6) m) m after before written
    o) →
    ForSome files (λ m. ForSome before (λ text.
    IsJoinTold (word words 1) (word words 2) (word words 3) (word words 4) (word words 5) (word words 6) m text after written o)) →
    Ends Join words files after before written o
join_ends words files after before written o answers told = record {
  answers = answers;
  kept = λ m is before begun. join_kept words m before after written o (told m is before begun);
  told = λ number e. absurd (join_makes_none number e);
}

-- the generator's run was played
pub generate_ends : (words : List (List ℕ)) (number : ℕ) (files : Option Files) (before written : Option (List ℕ)) (old new : Option ℕ) (o : Outcome) →
    OutcomeIs (generated number) o → ForSome before (λ text. TextIs (generated number) text written o) → SinkCausedBy old new o →
    ForSome before (λ text. IsGenerated number text written o) → Ends (Generate number) words files files before written o
generate_ends words number files before written old new o outcome text cause told = record {
  answers = λ m is. sink_answers (generated number) m files before written old new o (generated_writes number) is outcome text cause;
  kept = λ m is before begun. generated_kept words m before files written o number (told before begun) is;
  told = λ k same before begun. subst (λ n. IsGenerated n before written o) (same_number number k same) (told before begun);
}
  where
    same_number : (n k : ℕ) → Generate n ≡ Generate k → n ≡ k
    same_number n k e = cc

-- an input was refused
pub refusal_ends : (job : Job) (words : List (List ℕ)) (refused : Outcome) (files after : Option Files) (before written : Option (List ℕ)) (old new : Option ℕ)
    (o : Outcome) → ((number : ℕ) → job ≡ Generate number → ⊥) → ((m : Files) → files ≡ Some m → job_answer job words m ≡ Some (refusal_of refused)) →
    after ≡ files → OutcomeIs (Some (refusal_of refused)) o → ForSome before (λ text. TextIs (Some (refusal_of refused)) text written o) →
    SinkCausedBy old new o → (o ≡ Done → ⊥) → Ends job words files after before written o
refusal_ends job words refused files after before written old new o none is_refused same outcome text cause not = record {
  answers = λ m is.
      subst (λ a. Answers a m after before written o) (sym (is_refused m is))
      (sink_answers (Some (refusal_of refused)) m after before written old new o refl (same ∙ is) outcome text cause);
  kept = λ m is before begun. undone job words m before after written o not;
  told = λ number e. absurd (none number e);
}

-- the words ask for nothing that the program does
pub usage_ends : (words : List (List ℕ)) (files : Option Files) (before written : Option (List ℕ)) (old new : Option ℕ) (o : Outcome) →
    OutcomeIs (Some (refusal_of Usage)) o → ForSome before (λ text. TextIs (Some (refusal_of Usage)) text written o) → SinkCausedBy old new o →
    (o ≡ Done → ⊥) → Ends Nothing words files files before written o
usage_ends words files before written old new o outcome text cause not =
    refusal_ends Nothing words Usage files files before written old new o nothing_makes_none (λ m is. refl) refl outcome text cause not

-- an input could not be read, or there was no memory for it
pub fault_ends : (job : Job) (words : List (List ℕ)) (files after : Option Files) (before : Option (List ℕ)) → after ≡ files →
    Ends job words files after before before ReadFault
fault_ends job words files after before same = record {
  answers = λ m is. fault_answers (job_answer job words m) m after before (same ∙ is);
  kept = λ m is text begun. tt;
  told = λ number e text begun. tt;
}

pub memory_ends : (job : Job) (words : List (List ℕ)) (files after : Option Files) (before : Option (List ℕ)) → after ≡ files →
    Ends job words files after before before NoMemory
memory_ends job words files after before same = record {
  answers = λ m is. memory_answers (job_answer job words m) m after before (same ∙ is);
  kept = λ m is text begun. tt;
  told = λ number e text begun. tt;
}
