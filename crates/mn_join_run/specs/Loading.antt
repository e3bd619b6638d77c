-- What reading the inputs tells.
use Rattle.std.specs.Prelude.{◌≡◌, ℕ, true, List, All, Some, option_map, Result, Ok, Err, ⊤}
use Rattle.mn_edge.specs.Files.{Files, file}
use Rattle.mn_topo_toml.specs.Topology.{topology_of}
use Rattle.mn_pcap.specs.Reading as pcap
use Rattle.mn_capture.specs.Packets.{packets_in}
use Rattle.mn_script.specs.Reading.{lines_of}
use Rattle.mn_answer.specs.declared.outcome.Outcome.{Outcome}
use Rattle.mn_answer.specs.Answer.{refusal_of}
use Rattle.mn_join.specs.Pairs.{AreSites, AreApart, pairing_of}
use Rattle.mn_join_script.specs.Joints.{joints_of}
use Rattle.mn_join_script.specs.declared.line.JoinLine.{JoinLine}
use Rattle.mn_join_script.specs.Language.{join_says, line_fits}
use Rattle.mn_join_run.specs.declared.load.JoinNames.{JoinNames}
use Rattle.mn_join_run.specs.declared.load.Inputs.{Inputs}
use Rattle.mn_join_run.specs.Answer.{join_done, answer_for}

-- the joints are of the two networks, no site stands in two, and there is room for what each line asks for
pub record AreFit (inputs : Inputs) : Type 0 where
  pub sites : AreSites inputs.first inputs.second inputs.joints.items
  pub apart : AreApart inputs.joints.items
  pub fit : All (λ (line : JoinLine). line_fits inputs.first inputs.second line ≡ true) inputs.lines.items

-- the inputs are those of the files of these names, and the answer is that of the run
pub record AreRead (names : JoinNames) (files : Files) (inputs : Inputs) : Type 0 where
  pub bytes : List ℕ
  pub there : file files names.capture.now ≡ Some bytes
  pub first_read : option_map topology_of (file files names.first.now) ≡ Some (Ok inputs.first)
  pub second_read : option_map topology_of (file files names.second.now) ≡ Some (Ok inputs.second)
  pub joints_read : option_map (joints_of inputs.first inputs.second) (file files names.joints.now) ≡ Some (Ok inputs.joints.items)
  pub lines_read : option_map (lines_of (join_says inputs.first inputs.second) 1) (file files names.script.now) ≡ Some (Ok inputs.lines.items)
  pub capture_read : option_map pcap.packets_of (file files names.capture.now) ≡ Some (Ok (packets_in inputs.capture bytes))
  pub answer : answer_for names files
      ≡ Some (join_done names.folder.now (pairing_of inputs.first inputs.second inputs.joints.items) inputs.lines.items (packets_in inputs.capture bytes))

-- or one was refused, and that is the answer
abbrev pub LoadedIs : JoinNames → Files → Result Inputs Outcome → Type 0
LoadedIs names files (Ok inputs) = AreRead names files inputs
LoadedIs names files (Err outcome) = answer_for names files ≡ Some (refusal_of outcome)

-- they fit, and the capture is of the file of this name, also where the shelf tells no content
abbrev pub InputsFit : JoinNames → Result Inputs Outcome → Type 0
InputsFit names (Ok inputs) = AreFit inputs × (inputs.capture.name ≡ names.capture.now)
InputsFit names (Err outcome) = ⊤
