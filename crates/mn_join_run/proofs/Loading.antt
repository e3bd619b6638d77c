-- The answer, input by input.
use Rattle.std.proofs.Common.{◌≡◌, List, Option, None, Some, Ok, Err, ◌∙◌, ap}
use Rattle.std.specs.Prelude.{Vec, option_map}
use Rattle.std.specs.declared.alloc.Global.{Global}
use Rattle.mn_edge.specs.Files.{Files, file}
use Rattle.mn_topo.specs.Network.{Network}
use Rattle.mn_pcap.specs.Reading as pcap
use Rattle.mn_answer.specs.declared.outcome.Outcome.{Outcome}
use Rattle.mn_answer.specs.Answer.{Answer, refusal_of, with_topology, with_second, with_joints, with_lines_of, with_capture}
use Rattle.mn_answer.specs.Inputs.{TopologyIs, SecondIs, JointsAre, LinesAre, CaptureIs}
use Rattle.mn_join.specs.Pairs.{pairing_of}
use Rattle.mn_join_script.specs.Joints.{SitePair}
use Rattle.mn_join_script.specs.Language.{join_says}
use Rattle.mn_join_script.specs.declared.line.JoinLine.{JoinLine}
use Rattle.mn_join_run.specs.declared.load.JoinNames.{JoinNames}
use Rattle.mn_join_run.specs.declared.load.Inputs.{Inputs}
use Rattle.mn_join_run.specs.Answer.{join_done, with_script, with_pairing, with_both, with_first, answer_for}
use Rattle.mn_join_run.specs.Loading.{AreRead}

module _ (names : JoinNames) (m : Files) where
  -- what follows the inputs so far
  abbrev pub after_first : Network → Option Answer
  after_first first = with_first names.folder.now m names.second.now names.joints.now names.script.now names.capture.now first

  abbrev pub after_second : Network → Network → Option Answer
  after_second first second = with_both names.folder.now m names.joints.now names.script.now names.capture.now first second

  abbrev pub after_joints : Network → Network → List SitePair → Option Answer
  after_joints first second joints = with_pairing names.folder.now m names.script.now names.capture.now first second joints

  abbrev pub after_lines : Network → Network → List SitePair → List JoinLine → Option Answer
  after_lines first second joints lines = with_script names.folder.now m names.capture.now (pairing_of first second joints) lines

  -- so the answer goes on with an input that was read
  pub first_on : (first : Network) → TopologyIs (file m names.first.now) (Ok first) → answer_for names m ≡ after_first first
  first_on first read = read.1 after_first

  pub second_on : (first second : Network) → answer_for names m ≡ after_first first → SecondIs (file m names.second.now) (Ok second) →
      answer_for names m ≡ after_second first second
  second_on first second so read = so ∙ read.1 (after_second first)

  pub joints_on : (first second : Network) (joints : Vec SitePair Global) → answer_for names m ≡ after_second first second →
      JointsAre first second (file m names.joints.now) (Ok joints) → answer_for names m ≡ after_joints first second joints.items
  joints_on first second joints so read = so ∙ read.1 (after_joints first second)

  pub lines_on : (first second : Network) (joints : List SitePair) (lines : Vec JoinLine Global) → answer_for names m ≡ after_joints first second joints →
      LinesAre (join_says first second) (file m names.script.now) (Ok lines) → answer_for names m ≡ after_lines first second joints lines.items
  lines_on first second joints lines so read = so ∙ read.1 (after_lines first second joints)

  pub all_read : (inputs : Inputs) → TopologyIs (file m names.first.now) (Ok inputs.first) → SecondIs (file m names.second.now) (Ok inputs.second) →
      JointsAre inputs.first inputs.second (file m names.joints.now) (Ok inputs.joints) →
      LinesAre (join_says inputs.first inputs.second) (file m names.script.now) (Ok inputs.lines) → CaptureIs (file m names.capture.now) (Ok inputs.capture) →
      AreRead names m inputs
  all_read inputs first second joints lines capture = record {
    bytes = capture.0;
    there = capture.1;
    first_read = first.0;
    second_read = second.0;
    joints_read = joints.0;
    lines_read = lines.0;
    capture_read = ap (option_map pcap.packets_of) capture.1 ∙ ap (λ p. Some p) capture.2;
    answer =
        lines_on inputs.first inputs.second inputs.joints.items inputs.lines
        (joints_on inputs.first inputs.second inputs.joints (second_on inputs.first inputs.second (first_on inputs.first first) second) joints) lines
        ∙ capture.3 (λ packets.
        Some (join_done names.folder.now (pairing_of inputs.first inputs.second inputs.joints.items) inputs.lines.items packets));
  }

  -- or ends with one that was refused
  pub first_refused : (outcome : Outcome) → TopologyIs (file m names.first.now) (Err outcome) → answer_for names m ≡ Some (refusal_of outcome)
  first_refused outcome read = read after_first

  pub second_refused : (first : Network) (outcome : Outcome) → answer_for names m ≡ after_first first → SecondIs (file m names.second.now) (Err outcome) →
      answer_for names m ≡ Some (refusal_of outcome)
  second_refused first outcome so read = so ∙ read (after_second first)

  pub joints_refused : (first second : Network) (outcome : Outcome) → answer_for names m ≡ after_second first second →
      JointsAre first second (file m names.joints.now) (Err outcome) → answer_for names m ≡ Some (refusal_of outcome)
  joints_refused first second outcome so read = so ∙ read (after_joints first second)

  pub lines_refused : (first second : Network) (joints : List SitePair) (outcome : Outcome) → answer_for names m ≡ after_joints first second joints →
      LinesAre {L = JoinLine} (join_says first second) (file m names.script.now) (Err outcome) → answer_for names m ≡ Some (refusal_of outcome)
  lines_refused first second joints outcome so read = so ∙ read (after_lines first second joints)

  pub capture_refused : (first second : Network) (joints : List SitePair) (lines : List JoinLine) (outcome : Outcome) →
      answer_for names m ≡ after_lines first second joints lines → CaptureIs (file m names.capture.now) (Err outcome) →
      answer_for names m ≡ Some (refusal_of outcome)
  capture_refused first second joints lines outcome so read =
      so ∙ read (λ packets. Some (join_done names.folder.now (pairing_of first second joints) lines packets))

  -- and there is none without the file of one
  pub first_absent : file m names.first.now ≡ None → answer_for names m ≡ None
  first_absent absent = ap (λ input. with_topology input after_first) absent

  pub second_absent : (first : Network) → answer_for names m ≡ after_first first → file m names.second.now ≡ None → answer_for names m ≡ None
  second_absent first so absent = so ∙ ap (λ input. with_second input (after_second first)) absent

  pub joints_absent : (first second : Network) → answer_for names m ≡ after_second first second → file m names.joints.now ≡ None →
      answer_for names m ≡ None
  joints_absent first second so absent = so ∙ ap (λ input. with_joints first second input (after_joints first second)) absent

  pub lines_absent : (first second : Network) (joints : List SitePair) → answer_for names m ≡ after_joints first second joints →
      file m names.script.now ≡ None → answer_for names m ≡ None
  lines_absent first second joints so absent =
      so ∙ ap (λ input. with_lines_of (join_says first second) input (after_lines first second joints)) absent

  pub capture_absent : (first second : Network) (joints : List SitePair) (lines : List JoinLine) →
      answer_for names m ≡ after_lines first second joints lines → file m names.capture.now ≡ None → answer_for names m ≡ None
  capture_absent first second joints lines so absent =
      so ∙ ap (λ input. with_capture input (λ packets. Some (join_done names.folder.now (pairing_of first second joints) lines packets))) absent
