-- What reading an input tells.
use Rattle.std.specs.Prelude.{◌≡◌, ◌≢◌, ◌≤◌, ℕ, Bool, true, List, All, length, Option, Some, None, option_map, Result, Ok, Err, Vec, alloc_error, ⊤}
use Rattle.std.specs.declared.alloc.AllocError.{AllocError}
use Rattle.std.specs.declared.alloc.Global.{Global}
use Rattle.mn_base.specs.Limits.{most_script_lines}
use Rattle.mn_capture.specs.Packets.{CaptureView, packets_in}
use Rattle.mn_join_script.specs.Joints.{SitePair, joints_of, AreSites, AreApart}
use Rattle.mn_pcap.specs.Reading as pcap
use Rattle.mn_script.specs.Reading.{Says, lines_of}
use Rattle.mn_script.specs.declared.refusal.ScriptBad.{ScriptBad}
use Rattle.mn_script.specs.declared.refusal.ScriptBad.TheVariants.{Refused, NoMemory}
use Rattle.mn_topo.specs.Network.{Network}
use Rattle.mn_topo_toml.specs.Topology.{topology_of}
use Rattle.mn_answer.specs.declared.outcome.Limit.TheVariants.{Steps}
use Rattle.mn_answer.specs.declared.outcome.Outcome.{Outcome}
use Rattle.mn_answer.specs.declared.outcome.Outcome.TheVariants.{Usage, BadTopology, BadScript, BadCapture, BadJoints, BadSecond, TooLarge}
use Rattle.mn_answer.specs.Answer.{Answer, refusal_of, script_limit, with_topology, with_lines_of, with_capture, with_second, with_joints}

-- an outcome that refuses the words or an input
abbrev pub IsRefusal : Outcome → Type 0
IsRefusal Usage = ⊤
IsRefusal (BadTopology rule place) = ⊤
IsRefusal (BadScript rule line) = ⊤
IsRefusal (BadCapture rule place) = ⊤
IsRefusal (BadJoints rule line) = ⊤
IsRefusal (BadSecond rule place) = ⊤
IsRefusal (TooLarge which limit) = which ≢ Steps
IsRefusal outcome = ⊥

-- an outcome that refuses an input
abbrev pub RefusesInput : Outcome → Type 0
RefusesInput outcome = IsRefusal outcome × (outcome ≡ Usage → ⊥)

-- an outcome other than the refusal of an input by one of its rules
abbrev pub HasPlainLine : Outcome → Type 0
HasPlainLine (BadTopology rule place) = ⊥
HasPlainLine (BadScript rule line) = ⊥
HasPlainLine (BadCapture rule place) = ⊥
HasPlainLine (BadJoints rule line) = ⊥
HasPlainLine (BadSecond rule place) = ⊥
HasPlainLine outcome = ⊤

-- an input was read, or refused
abbrev pub IsSound : {T : Type 0} → Result T Outcome → Type 0
IsSound (Ok x) = ⊤
IsSound (Err outcome) = RefusesInput outcome

-- what follows a topology follows this one, or its refusal is the answer
abbrev pub TopologyIs : Option (List ℕ) → Result Network Outcome → Type 0
TopologyIs input (Ok topology) =
    (option_map topology_of input ≡ Some (Ok topology)) × ((next : Network → Option Answer) → with_topology input next ≡ next topology)
TopologyIs input (Err outcome) = (next : Network → Option Answer) → with_topology input next ≡ Some (refusal_of outcome)

-- the bytes of a script are those of its file, or the limit that they pass refuses them
abbrev pub ScriptBytesAre : Option (List ℕ) → Result (Vec ℕ Global) Outcome → Type 0
ScriptBytesAre input (Ok bytes) = input ≡ Some bytes.items
ScriptBytesAre input (Err outcome) = (bytes : List ℕ) × (input ≡ Some bytes) × (script_limit bytes ≡ Some outcome)

-- they pass none, also where the shelf tells no content
abbrev pub PassNoLimit : Result (Vec ℕ Global) Outcome → Type 0
PassNoLimit (Ok bytes) = script_limit bytes.items ≡ None
PassNoLimit (Err outcome) = ⊤

-- what the reader of a script answered: the script, its refusal, or that memory ran out
abbrev pub script_read : {T : Type 0} → Result T ScriptBad → Result (Result T Outcome) AllocError
script_read (Ok script) = Ok (Ok script)
script_read (Err (Refused rule line)) = Ok (Err (BadScript rule line))
script_read (Err NoMemory) = Err alloc_error

-- what follows a script in a language of lines follows this one, or its refusal is the answer
abbrev pub LinesAre : {L : Type 0} → Says L → Option (List ℕ) → Result (Vec L Global) Outcome → Type 0
LinesAre {L} says input (Ok script) =
    (option_map (lines_of says 1) input ≡ Some (Ok script.items))
    × ((next : List L → Option Answer) → with_lines_of says input next ≡ next script.items)
LinesAre {L} says input (Err outcome) = (next : List L → Option Answer) → with_lines_of says input next ≡ Some (refusal_of outcome)

-- there is room for what its lines ask for, and they are few, also where the shelf tells no content
abbrev pub LinesFit : {L : Type 0} → (L → Bool) → Result (Vec L Global) Outcome → Type 0
LinesFit fits (Ok script) = All (λ line. fits line ≡ true) script.items × (length script.items ≤ most_script_lines)
LinesFit fits (Err outcome) = ⊤

-- the same of a capture, by the places of its records
abbrev pub CaptureIs : Option (List ℕ) → Result CaptureView Outcome → Type 0
CaptureIs input (Ok capture) =
    (bytes : List ℕ) × (input ≡ Some bytes) × (pcap.packets_of bytes ≡ Ok (packets_in capture bytes)) × ((next : List (List ℕ) → Option Answer) →
    with_capture input next ≡ next (packets_in capture bytes))
CaptureIs input (Err outcome) = (next : List (List ℕ) → Option Answer) → with_capture input next ≡ Some (refusal_of outcome)

-- it is of the file of this name
abbrev pub CaptureOf : List ℕ → Result CaptureView Outcome → Type 0
CaptureOf name (Ok capture) = capture.name ≡ name
CaptureOf name (Err outcome) = ⊤

-- the same of a second topology
abbrev pub SecondIs : Option (List ℕ) → Result Network Outcome → Type 0
SecondIs input (Ok topology) =
    (option_map topology_of input ≡ Some (Ok topology)) × ((next : Network → Option Answer) → with_second input next ≡ next topology)
SecondIs input (Err outcome) = (next : Network → Option Answer) → with_second input next ≡ Some (refusal_of outcome)

-- the same of a list of joints
abbrev pub JointsAre : Network → Network → Option (List ℕ) → Result (Vec SitePair Global) Outcome → Type 0
JointsAre first second input (Ok joints) =
    (option_map (joints_of first second) input ≡ Some (Ok joints.items))
    × ((next : List SitePair → Option Answer) → with_joints first second input next ≡ next joints.items)
JointsAre first second input (Err outcome) = (next : List SitePair → Option Answer) → with_joints first second input next ≡ Some (refusal_of outcome)

-- they join sites of the two networks, none of them twice, also where the shelf tells no content
abbrev pub JointsFit : Network → Network → Result (Vec SitePair Global) Outcome → Type 0
JointsFit first second (Ok joints) = AreSites first second joints.items × AreApart joints.items
JointsFit first second (Err outcome) = ⊤
