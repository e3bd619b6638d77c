-- What `join TOPOLOGY1 TOPOLOGY2 JOINTS SCRIPT CAPTURE FOLDER` is to answer.
use Rattle.std.specs.Prelude.{ℕ, cond, List, [], ◌∷◌, ◌++◌, Option, Some, codes}
use Rattle.mn_base.specs.Limits.{most_steps}
use Rattle.mn_edge.specs.Files.{Files, file}
use Rattle.mn_topo.specs.Network.{Network}
use Rattle.mn_join_script.specs.Joints.{SitePair}
use Rattle.mn_answer.specs.declared.outcome.Limit.TheVariants.{Steps}
use Rattle.mn_answer.specs.declared.outcome.Outcome.{Outcome}
use Rattle.mn_answer.specs.declared.outcome.Outcome.TheVariants.{Done, TooLarge}
use Rattle.mn_answer.specs.Answer.{Answer, with_topology, with_second, with_joints, with_lines_of, with_capture}
use Rattle.mn_join_laws.specs.Pairing.{Pairing}
use Rattle.mn_join.specs.Pairs.{pairing_of}
use Rattle.mn_join_script.specs.declared.line.JoinLine.{JoinLine}
use Rattle.mn_join_script.specs.Language.{join_says}
use Rattle.mn_join_run.specs.Course.{JoinRun, run_of}
use Rattle.mn_join_run.specs.Report.{refused_texts, report, exits_file}
use Rattle.mn_join_run.specs.declared.load.JoinNames.{JoinNames}

-- the file of what comes out at sites that aren't joined
abbrev pub exits_name : List ℕ → List ℕ
exits_name folder = folder ++ codes "/delivered.pcap"

abbrev pub exits_files : List ℕ → JoinRun → List (List ℕ × List ℕ)
exits_files folder run = (exits_name folder, exits_file run.exits) ∷ []

abbrev pub outcome_of : JoinRun → Outcome
outcome_of run = cond run.is_stopped (TooLarge Steps most_steps) Done

-- what a run leaves and puts: the file grows while the lines are played, and refused lines are put early
abbrev pub run_done : List ℕ → Pairing → JoinRun → Answer
run_done folder pairing run = record {
  outcome = outcome_of run;
  files = exits_files folder run;
  running = exits_files folder run;
  early = refused_texts run;
  text = report pairing run;
}

abbrev pub join_done : List ℕ → Pairing → List JoinLine → List (List ℕ) → Answer
join_done folder pairing lines packets = run_done folder pairing (run_of pairing packets lines)

-- the inputs are tried in their order
abbrev pub with_script : List ℕ → Files → List ℕ → Pairing → List JoinLine → Option Answer
with_script folder files capture pairing lines = with_capture (file files capture) (λ packets. Some (join_done folder pairing lines packets))

abbrev pub with_pairing : List ℕ → Files → List ℕ → List ℕ → Network → Network → List SitePair → Option Answer
with_pairing folder files script capture first second joints =
    with_lines_of (join_says first second) (file files script)
    (with_script folder files capture (pairing_of first second joints))

abbrev pub with_both : List ℕ → Files → List ℕ → List ℕ → List ℕ → Network → Network → Option Answer
with_both folder files joints script capture first second =
    with_joints first second (file files joints) (with_pairing folder files script capture first second)

abbrev pub with_first : List ℕ → Files → List ℕ → List ℕ → List ℕ → List ℕ → Network → Option Answer
with_first folder files second joints script capture first =
    with_second (file files second) (with_both folder files joints script capture first)

abbrev pub join_answer : List ℕ → List ℕ → List ℕ → List ℕ → List ℕ → List ℕ → Files → Option Answer
join_answer first second joints script capture folder files =
    with_topology (file files first) (with_first folder files second joints script capture)

-- of inputs and a folder by these names
abbrev pub answer_for : JoinNames → Files → Option Answer
answer_for names files =
    join_answer names.first.now names.second.now names.joints.now names.script.now names.capture.now names.folder.now files
