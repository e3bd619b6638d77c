-- The promise of a run, from the definition of its answer.
use Rattle.std.proofs.Common.{◌≡◌, ◌≤◌, ℕ, Bool, true, false, List, ◌++◌, length, Option, Some}
use Rattle.std.proofs.Common.{Ok, option_map, refl, ap, ◌∙◌}
use Rattle.std.specs.Prelude.{cond, codes}
use Rattle.mn_base.specs.Limits.{most_script_lines}
use Rattle.mn_ledger.specs.Ledger.{packets_of}
use Rattle.mn_lines.specs.Lines.{total_line}
use Rattle.mn_output_laws.specs.Report.{totals_of}
use Rattle.mn_output_laws.proofs.Sendings.{each_packet_has_its_line}
use Rattle.mn_join_run.specs.Memory.{packets_at}
use Rattle.mn_edge.specs.Files.{Files, file}
use Rattle.mn_edge.specs.Written.{laid}
use Rattle.mn_pcap.specs.Reading as pcap
use Rattle.mn_topo.specs.Lawful.{IsLawful}
use Rattle.mn_topo.specs.Network.{Network}
use Rattle.mn_topo_toml.specs.Topology.{topology_of}
use Rattle.mn_script.specs.Script.{AllFit}
use Rattle.mn_course_laws.specs.Course.{inputs_of}
use Rattle.mn_course_laws.specs.Expansion.{Expansion, expanded}
use Rattle.mn_course_laws.specs.Lawful.{IsLawfulRun}
use Rattle.mn_answer.specs.declared.outcome.Limit.TheVariants.{Steps}
use Rattle.mn_answer.specs.declared.outcome.Outcome.{Outcome}
use Rattle.mn_answer.specs.declared.outcome.Outcome.TheVariants.{Done, Usage, BadTopology, BadScript, BadCapture, BadSecond, BadJoints, TooLarge, ReadFault}
use Rattle.mn_answer.specs.declared.outcome.Outcome.TheVariants.{WriteFault, NoMemory}
use Rattle.mn_run.specs.declared.words.Job.{Job}
use Rattle.mn_run.specs.declared.words.Job.TheVariants.{Run, Check, Flood, Reflect, Join, Reach, Generate}
use Rattle.mn_run.specs.Words.{word, failures_name}
use Rattle.mn_run.specs.Answer.{run_done, checked}
use Rattle.mn_answer.specs.Endings.{OutcomeIs, FilesAre, TextIs}
use Rattle.mn_ledger_laws.proofs.Accounted.{accounts}
use Rattle.mn_course_laws.proofs.Entered.{lawful_run}
use Rattle.mn_arrival_laws.proofs.Arriving.{it_arrives}
use Rattle.mn_arrival_laws.proofs.Resolving.{arrives_where_it_can}
use Rattle.mn_capture.specs.Packets.{packets_in}
use Rattle.mn_run.specs.declared.load.Inputs.{Inputs}
use Rattle.mn_run.specs.Jobs.{AreRead, AreMade}
use Rattle.mn_run.specs.declared.generate.Made.{Made}
use Rattle.mn_run.specs.Answer.{generated_line, generated_done}
use Rattle.mn_flood_run.specs.Headline.{IsFloodTold}
use Rattle.mn_reflect_run.specs.Headline.{IsReflectTold}
use Rattle.mn_reach_run.specs.Headline.{IsReachTold}
use Rattle.mn_join_run.specs.Headline.{IsJoinTold}
use Rattle.mn_run.specs.Headline.{IsKept, KeepsItsPromise, IsGenerated}
use Rattle.mn_run.proofs.Draining.{each_is_drained}
use Rattle.mn_run.proofs.Moments.{all_give_labels, frames_are_young}

pub promise : (topology script capture folder : List ℕ) (files : Files) (before : List ℕ) (after : Option Files) (written : Option (List ℕ))
    (inputs : Inputs) → AreRead topology script capture files inputs
    → IsLawful inputs.topology → AllFit inputs.topology inputs.lines.items → length inputs.lines.items ≤ most_script_lines
    → (bytes : List ℕ) → file files capture ≡ Some bytes → option_map pcap.packets_of (file files capture) ≡ Some (Ok (packets_in inputs.capture bytes))
    → after ≡ Some (laid (run_done folder inputs.topology inputs.lines.items (packets_in inputs.capture bytes)).files files)
    → written ≡ Some (before ++ (run_done folder inputs.topology inputs.lines.items (packets_in inputs.capture bytes)).text)
    → KeepsItsPromise topology script capture folder files before after written
unfolding run_done
promise topology script capture folder files before after written inputs read is_lawful fits few bytes there capture_read files_are text_is =
    let packets : List (List ℕ) = packets_in inputs.capture bytes in
    let run : Expansion = expanded inputs.topology packets inputs.lines.items in
    let goes : IsLawfulRun inputs.topology packets run = lawful_run inputs.topology is_lawful packets inputs.lines.items fits in
    record {
      topology = inputs.topology;
      script = inputs.lines.items;
      packets = packets;
      run = run;
      topology_read = read.topology_read;
      script_read = read.over.script_read;
      capture_read = capture_read;
      played = refl;
      lawful = goes;
      told = each_packet_has_its_line inputs.topology packets inputs.lines.items;
      accounts = accounts inputs.topology run.past.entries (inputs_of packets run.past.entries) is_lawful goes.past.journal goes.past.each;
      arrives = it_arrives inputs.topology run.past.entries (inputs_of packets run.past.entries) is_lawful goes.past.journal;
      arrives_where_it_can = arrives_where_it_can inputs.topology run.past.entries (inputs_of packets run.past.entries) is_lawful goes.past.journal;
      drained = each_is_drained inputs.topology is_lawful packets inputs.lines.items fits few;
      labelled = all_give_labels inputs.topology run.past.entries (inputs_of packets run.past.entries) is_lawful goes.past.journal;
      young = frames_are_young inputs.topology packets run.past is_lawful goes.past;
      lines = text_is;
      written_files = files_are;
    }

-- where a run is done its promise is kept
pub kept : (words : List (List ℕ)) (files : Files) (before : List ℕ) (after : Option Files) (written : Option (List ℕ)) (outcome : Outcome) (inputs : Inputs)
    (read : AreRead (word words 1) (word words 2) (word words 3) files inputs) → IsLawful inputs.topology → AllFit inputs.topology inputs.lines.items
    → length inputs.lines.items ≤ most_script_lines →
    FilesAre (Some (run_done (word words 4) inputs.topology inputs.lines.items (packets_in inputs.capture read.over.bytes))) files after outcome
    → TextIs (Some (run_done (word words 4) inputs.topology inputs.lines.items (packets_in inputs.capture read.over.bytes))) before written outcome
    → IsKept Run words files before after written outcome
kept words files before after written Done inputs read is_lawful fits few f t =
    promise (word words 1) (word words 2) (word words 3) (word words 4) files before after written inputs read is_lawful fits few read.over.bytes
    read.over.there
    read.over.capture_read f t
kept words files before after written Usage inputs read is_lawful fits few f t = tt
kept words files before after written ReadFault inputs read is_lawful fits few f t = tt
kept words files before after written WriteFault inputs read is_lawful fits few f t = tt
kept words files before after written NoMemory inputs read is_lawful fits few f t = tt
kept words files before after written (BadTopology rule place) inputs read is_lawful fits few f t = tt
kept words files before after written (BadScript rule line) inputs read is_lawful fits few f t = tt
kept words files before after written (BadCapture rule place) inputs read is_lawful fits few f t = tt
kept words files before after written (BadSecond rule place) inputs read is_lawful fits few f t = tt
kept words files before after written (BadJoints rule line) inputs read is_lawful fits few f t = tt
kept words files before after written (TooLarge which limit) inputs read is_lawful fits few f t = tt

-- what was not done keeps nothing
pub undone : (job : Job) (words : List (List ℕ)) (files : Files) (before : List ℕ) (after : Option Files) (written : Option (List ℕ)) (outcome : Outcome) →
    (outcome ≡ Done → ⊥) → IsKept job words files before after written outcome
undone job words files before after written Done not = absurd (not refl)
undone job words files before after written Usage not = tt
undone job words files before after written ReadFault not = tt
undone job words files before after written WriteFault not = tt
undone job words files before after written NoMemory not = tt
undone job words files before after written (BadTopology rule place) not = tt
undone job words files before after written (BadScript rule line) not = tt
undone job words files before after written (BadCapture rule place) not = tt
undone job words files before after written (BadSecond rule place) not = tt
undone job words files before after written (BadJoints rule line) not = tt
undone job words files before after written (TooLarge which limit) not = tt

-- what a check tells, where it was done
pub topology_told : (words : List (List ℕ)) (files : Files) (before : List ℕ) (after : Option Files) (written : Option (List ℕ)) (outcome : Outcome)
    (t : Network) → option_map topology_of (file files (word words 1)) ≡ Some (Ok t) → after ≡ Some files → TextIs (Some (checked t)) before written outcome →
    IsKept Check words files before after written outcome
topology_told words files before after written Done t read same text = record { topology = t; topology_read = read; lines = text; same = same }
topology_told words files before after written Usage t read same text = tt
topology_told words files before after written ReadFault t read same text = tt
topology_told words files before after written WriteFault t read same text = tt
topology_told words files before after written NoMemory t read same text = tt
topology_told words files before after written (BadTopology rule place) t read same text = tt
topology_told words files before after written (BadScript rule line) t read same text = tt
topology_told words files before after written (BadCapture rule place) t read same text = tt
topology_told words files before after written (BadSecond rule place) t read same text = tt
topology_told words files before after written (BadJoints rule line) t read same text = tt
topology_told words files before after written (TooLarge which limit) t read same text = tt

-- what a flood tells, where it was done, and no file changed
pub flood_kept : (words : List (List ℕ)) (files : Files) (before : List ℕ) (after : Option Files) (written : Option (List ℕ)) (outcome : Outcome)
    → IsFloodTold (word words 1) (word words 2) files before written outcome → after ≡ Some files → IsKept Flood words files before after written outcome
flood_kept words files before after written Done told same = (told, same)
flood_kept words files before after written Usage told same = tt
flood_kept words files before after written ReadFault told same = tt
flood_kept words files before after written WriteFault told same = tt
flood_kept words files before after written NoMemory told same = tt
flood_kept words files before after written (BadTopology rule place) told same = tt
flood_kept words files before after written (BadScript rule line) told same = tt
flood_kept words files before after written (BadCapture rule place) told same = tt
flood_kept words files before after written (BadSecond rule place) told same = tt
flood_kept words files before after written (BadJoints rule line) told same = tt
flood_kept words files before after written (TooLarge which limit) told same = tt

-- what reflected routes tell, where it was done, and no file changed
pub reflect_kept : (words : List (List ℕ)) (files : Files) (before : List ℕ) (after : Option Files) (written : Option (List ℕ)) (outcome : Outcome)
    → IsReflectTold (word words 1) (word words 2) files before written outcome → after ≡ Some files → IsKept Reflect words files before after written outcome
reflect_kept words files before after written Done told same = (told, same)
reflect_kept words files before after written Usage told same = tt
reflect_kept words files before after written ReadFault told same = tt
reflect_kept words files before after written WriteFault told same = tt
reflect_kept words files before after written NoMemory told same = tt
reflect_kept words files before after written (BadTopology rule place) told same = tt
reflect_kept words files before after written (BadScript rule line) told same = tt
reflect_kept words files before after written (BadCapture rule place) told same = tt
reflect_kept words files before after written (BadSecond rule place) told same = tt
reflect_kept words files before after written (BadJoints rule line) told same = tt
reflect_kept words files before after written (TooLarge which limit) told same = tt

-- what failures are told, where it was done, and no file changed
pub reach_kept : (words : List (List ℕ)) (files : Files) (before : List ℕ) (after : Option Files) (written : Option (List ℕ)) (outcome : Outcome)
    → IsReachTold (word words 1) (failures_name words) files before written outcome → after ≡ Some files → IsKept Reach words files before after written outcome
reach_kept words files before after written Done told same = (told, same)
reach_kept words files before after written Usage told same = tt
reach_kept words files before after written ReadFault told same = tt
reach_kept words files before after written WriteFault told same = tt
reach_kept words files before after written NoMemory told same = tt
reach_kept words files before after written (BadTopology rule place) told same = tt
reach_kept words files before after written (BadScript rule line) told same = tt
reach_kept words files before after written (BadCapture rule place) told same = tt
reach_kept words files before after written (BadSecond rule place) told same = tt
reach_kept words files before after written (BadJoints rule line) told same = tt
reach_kept words files before after written (TooLarge which limit) told same = tt

-- what two joined networks tell and leave, where it was done
pub join_kept : (words : List (List ℕ)) (files : Files) (before : List ℕ) (after : Option Files) (written : Option (List ℕ)) (outcome : Outcome)
    → IsJoinTold (word words 1) (word words 2) (word words 3) (word words 4) (word words 5) (word words 6) files before after written outcome →
    IsKept Join words files before after written outcome
join_kept words files before after written Done told = told
join_kept words files before after written Usage told = tt
join_kept words files before after written ReadFault told = tt
join_kept words files before after written WriteFault told = tt
join_kept words files before after written NoMemory told = tt
join_kept words files before after written (BadTopology rule place) told = tt
join_kept words files before after written (BadScript rule line) told = tt
join_kept words files before after written (BadCapture rule place) told = tt
join_kept words files before after written (BadSecond rule place) told = tt
join_kept words files before after written (BadJoints rule line) told = tt
join_kept words files before after written (TooLarge which limit) told = tt

-- what the generator's run tells, where it was done, and no file changed
pub generated_kept : (words : List (List ℕ)) (files : Files) (before : List ℕ) (after : Option Files) (written : Option (List ℕ)) (outcome : Outcome)
    (number : ℕ) → IsGenerated number before written outcome → after ≡ Some files → IsKept (Generate number) words files before after written outcome
generated_kept words files before after written Done number told same = (told, same)
generated_kept words files before after written Usage number told same = tt
generated_kept words files before after written ReadFault number told same = tt
generated_kept words files before after written WriteFault number told same = tt
generated_kept words files before after written NoMemory number told same = tt
generated_kept words files before after written (BadTopology rule place) number told same = tt
generated_kept words files before after written (BadScript rule line) number told same = tt
generated_kept words files before after written (BadCapture rule place) number told same = tt
generated_kept words files before after written (BadSecond rule place) number told same = tt
generated_kept words files before after written (BadJoints rule line) number told same = tt
generated_kept words files before after written (TooLarge which limit) number told same = tt

-- what the generator's run tells, where it was done
pub total_told : (number : ℕ) (made : Made) → AreMade number made → IsLawful made.topology → (before : List ℕ) (written : Option (List ℕ)) (outcome : Outcome)
    → OutcomeIs (Some (generated_done number made.topology made.lines.items (packets_at made.capture))) outcome
    → TextIs (Some (generated_done number made.topology made.lines.items (packets_at made.capture))) before written outcome →
    IsGenerated number before written outcome
unfolding generated_done
total_told number made are is_lawful before written Done o t =
    let packets : List (List ℕ) = packets_at made.capture in
    let run : Expansion = expanded made.topology packets made.lines.items in
    let goes : IsLawfulRun made.topology packets run = lawful_run made.topology is_lawful packets made.lines.items are.over.fit in
    record {
      topology = made.topology;
      script = made.lines.items;
      packets = packets;
      run = run;
      topology_read = are.topology_read;
      script_read = are.over.script_read;
      capture_read = are.over.capture_read;
      played = refl;
      lawful = goes;
      told = each_packet_has_its_line made.topology packets made.lines.items;
      accounts = accounts made.topology run.past.entries (inputs_of packets run.past.entries) is_lawful goes.past.journal goes.past.each;
      arrives = it_arrives made.topology run.past.entries (inputs_of packets run.past.entries) is_lawful goes.past.journal;
      arrives_where_it_can = arrives_where_it_can made.topology run.past.entries (inputs_of packets run.past.entries) is_lawful goes.past.journal;
      drained = each_is_drained made.topology is_lawful packets made.lines.items are.over.fit are.over.few;
      labelled = all_give_labels made.topology run.past.entries (inputs_of packets run.past.entries) is_lawful goes.past.journal;
      young = frames_are_young made.topology packets run.past is_lawful goes.past;
      lines = t ∙ ap (λ b. Some (before ++ cond b (codes "too large steps\n")
          (generated_line number ++ total_line (totals_of run (packets_of made.topology run.past.entries (inputs_of packets run.past.entries)).verdicts))))
          (not_stopped run.is_stopped o);
    }
  where
    not_stopped : (b : Bool) → cond b (TooLarge Steps 4000000) Done ≡ Done → b ≡ false
    not_stopped true h = absurd cc
    not_stopped false h = refl
total_told number made are is_lawful before written Usage o t = tt
total_told number made are is_lawful before written ReadFault o t = tt
total_told number made are is_lawful before written WriteFault o t = tt
total_told number made are is_lawful before written NoMemory o t = tt
total_told number made are is_lawful before written (BadTopology rule place) o t = tt
total_told number made are is_lawful before written (BadScript rule line) o t = tt
total_told number made are is_lawful before written (BadCapture rule place) o t = tt
total_told number made are is_lawful before written (BadSecond rule place) o t = tt
total_told number made are is_lawful before written (BadJoints rule line) o t = tt
total_told number made are is_lawful before written (TooLarge which limit) o t = tt
