-- What a call is to answer, and how it goes on with an input that was read or ends with its refusal.
use Rattle.std.specs.Prelude.{ℕ, ◌^◌, nat_lt, if◌then◌else◌, List, [], length, Option, Some, None, Result, Ok, Err}
use Rattle.std.specs.Str.Lines.{lines}
use Rattle.mn_base.specs.Limits.{most_script_lines}
use Rattle.mn_join_script.specs.declared.refusal.JointsRule.{JointsRule}
use Rattle.mn_join_script.specs.Joints.{SitePair, joints_of}
use Rattle.mn_pcap.specs.Reading.{count_of}
use Rattle.mn_pcap.specs.Reading as pcap
use Rattle.mn_pcap.specs.declared.refusal.PcapBad.{PcapBad}
use Rattle.mn_pcap.specs.declared.refusal.PcapBad.TheVariants as bad
use Rattle.mn_script.specs.declared.refusal.ScriptRule.{ScriptRule}
use Rattle.mn_script.specs.Reading.{Says, lines_of}
use Rattle.mn_topo_toml.specs.declared.refusal.TopoRule.{TopoRule}
use Rattle.mn_topo_toml.specs.declared.refusal.Place.{Place}
use Rattle.mn_topo.specs.Network.{Network}
use Rattle.mn_topo_toml.specs.Topology.{topology_of}
use Rattle.mn_answer.specs.declared.outcome.Limit.TheVariants.{TopologyBytes, ScriptBytes, ScriptLines, CaptureBytes, CaptureRecords, JointsBytes, SecondBytes}
use Rattle.mn_answer.specs.declared.outcome.Outcome.{Outcome}
use Rattle.mn_answer.specs.declared.outcome.Outcome.TheVariants.{NoMemory, BadTopology, BadScript, BadCapture, BadJoints, BadSecond, TooLarge}
use Rattle.mn_answer.specs.Refusals.{refusal_line}

-- how the call ends, the files that it writes, what is in them while the lines of a script are played, and the text that it puts,
-- of which the early part may be put before all files are whole
pub record Answer : Type 0 where
  pub outcome : Outcome
  pub files : List (List ℕ × List ℕ)
  pub running : List (List ℕ × List ℕ)
  pub early : List ℕ
  pub text : List ℕ

-- a refusal writes nothing and puts one line
abbrev pub refusal_of : Outcome → Answer
refusal_of outcome = record { outcome = outcome; files = []; running = []; early = []; text = refusal_line outcome }

-- a topology has at most 1 MiB
abbrev pub most_topology_bytes : ℕ
most_topology_bytes = 2 ^ 20

-- a topology goes on, or is refused by rule and place
abbrev pub if_lawful : Result Network (TopoRule × Place) → (Network → Option Answer) → Option Answer
if_lawful (Ok topology) next = next topology
if_lawful (Err refused) next = Some (refusal_of (BadTopology refused.0 refused.1))

-- the limit of a topology comes before its own refusal; without the file there is no answer
abbrev pub with_topology_bytes : List ℕ → (Network → Option Answer) → Option Answer
with_topology_bytes bytes next =
    if nat_lt most_topology_bytes (length bytes) then Some (refusal_of (TooLarge TopologyBytes most_topology_bytes)) else if_lawful (topology_of bytes) next

abbrev pub with_topology : Option (List ℕ) → (Network → Option Answer) → Option Answer
with_topology None next = None
with_topology (Some bytes) next = with_topology_bytes bytes next

-- a script has at most 64 MiB, and at most 3,000,000 lines
abbrev pub most_script_bytes : ℕ
most_script_bytes = 2 ^ 26

-- a script goes on, or is refused by rule and line
abbrev pub if_accepted : {S : Type 0} → Result S (ScriptRule × ℕ) → (S → Option Answer) → Option Answer
if_accepted (Ok script) next = next script
if_accepted (Err refused) next = Some (refusal_of (BadScript refused.0 refused.1))

-- the limits of a script come before its own refusal: its lines are counted before any is looked at
abbrev pub with_script_within : {S : Type 0} → (List ℕ → Result S (ScriptRule × ℕ)) → List ℕ → (S → Option Answer) → Option Answer
with_script_within read bytes next =
    if nat_lt most_script_lines (length (lines bytes)) then Some (refusal_of (TooLarge ScriptLines most_script_lines)) else if_accepted (read bytes) next

abbrev pub with_script_of_bytes : {S : Type 0} → (List ℕ → Result S (ScriptRule × ℕ)) → List ℕ → (S → Option Answer) → Option Answer
with_script_of_bytes read bytes next =
    if nat_lt most_script_bytes (length bytes) then Some (refusal_of (TooLarge ScriptBytes most_script_bytes)) else with_script_within read bytes next

abbrev pub with_script_of : {S : Type 0} → (List ℕ → Result S (ScriptRule × ℕ)) → Option (List ℕ) → (S → Option Answer) → Option Answer
with_script_of read None next = None
with_script_of read (Some bytes) next = with_script_of_bytes read bytes next

-- the limit that a script passes, if it does
abbrev pub script_limit : List ℕ → Option Outcome
script_limit bytes =
    if nat_lt most_script_bytes (length bytes) then Some (TooLarge ScriptBytes most_script_bytes) else
    if nat_lt most_script_lines (length (lines bytes)) then Some (TooLarge ScriptLines most_script_lines) else None

-- so does a script in a language of lines
abbrev pub with_lines_of_bytes : {L : Type 0} → Says L → List ℕ → (List L → Option Answer) → Option Answer
with_lines_of_bytes says bytes next = with_script_of_bytes (lines_of says 1) bytes next

abbrev pub with_lines_of : {L : Type 0} → Says L → Option (List ℕ) → (List L → Option Answer) → Option Answer
with_lines_of says input next = with_script_of (lines_of says 1) input next

-- a capture has at most 64 MiB, and at most 100,000 whole records before its first refusal
abbrev pub most_capture_bytes : ℕ
most_capture_bytes = 2 ^ 26

abbrev pub most_capture_records : ℕ
most_capture_records = 100000

-- a capture goes on with its packets, or is refused by rule and place
abbrev pub if_captured : Result (List (List ℕ)) PcapBad → (List (List ℕ) → Option Answer) → Option Answer
if_captured (Ok packets) next = next packets
if_captured (Err (bad.Refused rule place)) next = Some (refusal_of (BadCapture rule place))
if_captured (Err bad.NoMemory) next = Some (refusal_of NoMemory)

-- the limits of a capture come before its own refusal
abbrev pub with_records : List ℕ → (List (List ℕ) → Option Answer) → Option Answer
with_records bytes next =
    if nat_lt most_capture_records (count_of bytes) then Some (refusal_of (TooLarge CaptureRecords most_capture_records)) else if_captured
    (pcap.packets_of bytes) next

abbrev pub with_capture_bytes : List ℕ → (List (List ℕ) → Option Answer) → Option Answer
with_capture_bytes bytes next =
    if nat_lt most_capture_bytes (length bytes) then Some (refusal_of (TooLarge CaptureBytes most_capture_bytes)) else with_records bytes next

abbrev pub with_capture : Option (List ℕ) → (List (List ℕ) → Option Answer) → Option Answer
with_capture None next = None
with_capture (Some bytes) next = with_capture_bytes bytes next

-- the second topology of two goes on, or is refused as the second, by rule and place; it may have as many bytes as the first
abbrev pub if_second_lawful : Result Network (TopoRule × Place) → (Network → Option Answer) → Option Answer
if_second_lawful (Ok topology) next = next topology
if_second_lawful (Err refused) next = Some (refusal_of (BadSecond refused.0 refused.1))

abbrev pub with_second_bytes : List ℕ → (Network → Option Answer) → Option Answer
with_second_bytes bytes next =
    if nat_lt most_topology_bytes (length bytes) then Some (refusal_of (TooLarge SecondBytes most_topology_bytes)) else if_second_lawful
    (topology_of bytes) next

abbrev pub with_second : Option (List ℕ) → (Network → Option Answer) → Option Answer
with_second None next = None
with_second (Some bytes) next = with_second_bytes bytes next

-- a list of joints has at most 1 MiB
abbrev pub most_joints_bytes : ℕ
most_joints_bytes = 2 ^ 20

-- a list of joints goes on, or is refused by rule and line
abbrev pub if_joined : Result (List SitePair) (JointsRule × ℕ) → (List SitePair → Option Answer) → Option Answer
if_joined (Ok joints) next = next joints
if_joined (Err refused) next = Some (refusal_of (BadJoints refused.0 refused.1))

-- the limit of a list of joints comes before its own refusal
abbrev pub with_joints_bytes : Network → Network → List ℕ → (List SitePair → Option Answer) → Option Answer
with_joints_bytes first second bytes next =
    if nat_lt most_joints_bytes (length bytes) then Some (refusal_of (TooLarge JointsBytes most_joints_bytes)) else if_joined
    (joints_of first second bytes) next

abbrev pub with_joints : Network → Network → Option (List ℕ) → (List SitePair → Option Answer) → Option Answer
with_joints first second None next = None
with_joints first second (Some bytes) next = with_joints_bytes first second bytes next
