-- What is told where all was done.
use Rattle.std.proofs.Common.{◌≡◌, ℕ, Bool, true, false, List, Option, Some, Ok, refl, sym, subst}
use Rattle.std.specs.Prelude.{cond, option_map}
use Rattle.std.specs.Option.{ForSome}
use Rattle.mn_base.specs.Limits.{most_steps}
use Rattle.mn_edge.specs.Files.{Files, file}
use Rattle.mn_topo.specs.Lawful.{IsLawful}
use Rattle.mn_topo.specs.Network.{Network}
use Rattle.mn_topo_toml.specs.Topology.{topology_of}
use Rattle.mn_pcap.specs.Reading as pcap
use Rattle.mn_script.specs.Reading.{lines_of}
use Rattle.mn_join_script.specs.Joints.{SitePair, joints_of}
use Rattle.mn_answer.specs.declared.outcome.Limit.TheVariants.{Steps}
use Rattle.mn_answer.specs.declared.outcome.Outcome.{Outcome}
use Rattle.mn_answer.specs.declared.outcome.Outcome.TheVariants.{Done, Usage, ReadFault, WriteFault, NoMemory, BadTopology, BadScript, BadCapture, BadSecond}
use Rattle.mn_answer.specs.declared.outcome.Outcome.TheVariants.{BadJoints, TooLarge}
use Rattle.mn_answer.specs.Answer.{Answer, refusal_of}
use Rattle.mn_answer.specs.Endings.{OutcomeIs, FilesAre, TextIs, SinkCausedBy, Answers}
use Rattle.mn_answer.proofs.Ending.{sink_answers}
use Rattle.mn_join_laws.specs.declared.leg.Which.{Which}
use Rattle.mn_join_laws.specs.declared.leg.Which.TheVariants.{First, Second}
use Rattle.mn_join_laws.specs.Pairing.{network}
use Rattle.mn_join.specs.Pairs.{pairing_of}
use Rattle.mn_join_script.specs.declared.line.JoinLine.{JoinLine}
use Rattle.mn_join_script.specs.Language.{join_says}
use Rattle.mn_join_run.specs.Course.{run_of}
use Rattle.mn_join_run.specs.Answer.{join_done}
use Rattle.mn_join_run.specs.Ending.{AreLawfulIfDone}
use Rattle.mn_join_run.specs.Headline.{TellsJoin, IsJoinTold}
use Rattle.mn_join_run.proofs.Promise.{accounts_for_legs, all_answered_for, all_out}

-- it is told only where all was done
pub told_if_done : (one two three four capture folder : List ℕ) (m : Files) (before : List ℕ) (after : Option Files) (written : Option (List ℕ)) (o : Outcome) →
    (o ≡ Done → TellsJoin one two three four capture folder m before after written) → IsJoinTold one two three four capture folder m before after written o
told_if_done one two three four capture folder m before after written Done tells = tells refl
told_if_done one two three four capture folder m before after written Usage tells = tt
told_if_done one two three four capture folder m before after written ReadFault tells = tt
told_if_done one two three four capture folder m before after written WriteFault tells = tt
told_if_done one two three four capture folder m before after written NoMemory tells = tt
told_if_done one two three four capture folder m before after written (BadTopology rule place) tells = tt
told_if_done one two three four capture folder m before after written (BadScript rule line) tells = tt
told_if_done one two three four capture folder m before after written (BadCapture rule place) tells = tt
told_if_done one two three four capture folder m before after written (BadSecond rule place) tells = tt
told_if_done one two three four capture folder m before after written (BadJoints rule line) tells = tt
told_if_done one two three four capture folder m before after written (TooLarge which limit) tells = tt

module _ (one two three four capture folder : List ℕ) (m : Files) (before : List ℕ) (after : Option Files) (written : Option (List ℕ)) where
  -- of a call that wasn't done
  pub undone : (o : Outcome) → (o ≡ Done → ⊥) → IsJoinTold one two three four capture folder m before after written o
  undone o not = told_if_done one two three four capture folder m before after written o (λ e. absurd (not e))

  -- of a script that was played
  pub played_told : (first second : Network) (joints : List SitePair) (lines : List JoinLine) (packets : List (List ℕ)) (o : Outcome) →
      option_map topology_of (file m one) ≡ Some (Ok first) → option_map topology_of (file m two) ≡ Some (Ok second) →
      option_map (joints_of first second) (file m three) ≡ Some (Ok joints) →
      option_map (lines_of (join_says first second) 1) (file m four) ≡ Some (Ok lines) →
      option_map pcap.packets_of (file m capture) ≡ Some (Ok packets) →
      IsLawful first → IsLawful second → AreLawfulIfDone (pairing_of first second joints) (run_of (pairing_of first second joints) packets lines) o →
      OutcomeIs (Some (join_done folder (pairing_of first second joints) lines packets)) o →
      FilesAre (Some (join_done folder (pairing_of first second joints) lines packets)) m after o →
      TextIs (Some (join_done folder (pairing_of first second joints) lines packets)) before written o →
      IsJoinTold one two three four capture folder m before after written o
  played_told first second joints lines packets o reads_first reads_second reads_joints reads_lines reads_capture one_lawful two_lawful sides outcome files
      text =
      told_if_done one two three four capture folder m before after written o
      (λ done. record {
        first = first;
        second = second;
        joints = joints;
        lines = lines;
        packets = packets;
        run = run_of (pairing_of first second joints) packets lines;
        first_read = reads_first;
        second_read = reads_second;
        joints_read = reads_joints;
        lines_read = reads_lines;
        capture_read = reads_capture;
        played = refl;
        each = accounts_for_legs (pairing_of first second joints) (run_of (pairing_of first second joints) packets lines).both lawful
            (subst (AreLawfulIfDone (pairing_of first second joints) (run_of (pairing_of first second joints) packets lines)) done sides);
        answered = all_answered_for (pairing_of first second joints) packets lines lawful
            (subst (AreLawfulIfDone (pairing_of first second joints) (run_of (pairing_of first second joints) packets lines)) done sides)
            (not_stopped (run_of (pairing_of first second joints) packets lines).is_stopped
            (subst (OutcomeIs (Some (join_done folder (pairing_of first second joints) lines packets))) done outcome));
        out = all_out (pairing_of first second joints) packets lines lawful
            (subst (AreLawfulIfDone (pairing_of first second joints) (run_of (pairing_of first second joints) packets lines)) done sides)
            (not_stopped (run_of (pairing_of first second joints) packets lines).is_stopped
            (subst (OutcomeIs (Some (join_done folder (pairing_of first second joints) lines packets))) done outcome));
        told = subst (TextIs (Some (join_done folder (pairing_of first second joints) lines packets)) before written) done text;
        written_files = subst (FilesAre (Some (join_done folder (pairing_of first second joints) lines packets)) m after) done files;
      })
    where
      lawful : (which : Which) → IsLawful (network (pairing_of first second joints) which)
      lawful First = one_lawful
      lawful Second = two_lawful

      not_stopped : (b : Bool) → cond b (TooLarge Steps most_steps) Done ≡ Done → b ≡ false
      not_stopped true h = absurd cc
      not_stopped false h = refl

-- an input that was refused: its line was put, or a first part of it
pub refused : (a : Option Answer) (outcome : Outcome) (m : Files) (after : Option Files) (before written : Option (List ℕ)) (old new : Option ℕ) (o : Outcome) →
    a ≡ Some (refusal_of outcome) → after ≡ Some m → OutcomeIs (Some (refusal_of outcome)) o →
    ForSome before (λ text. TextIs (Some (refusal_of outcome)) text written o) → SinkCausedBy old new o → Answers a m after before written o
refused a outcome m after before written old new o is same outcomes text cause =
    subst (λ x. Answers x m after before written o) (sym is)
    (sink_answers (Some (refusal_of outcome)) m after before written old new o refl same outcomes text cause)
