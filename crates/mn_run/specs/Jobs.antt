-- What reading the inputs tells.
use Rattle.std.specs.Prelude.{◌≡◌, ◌≤◌, ℕ, List, length, Option, Some, option_map, Result, Ok, Err, Vec, ⊤}
use Rattle.std.specs.declared.alloc.Global.{Global}
use Rattle.std.specs.Option.{ForSome}
use Rattle.mn_base.specs.Limits.{most_script_lines, most_steps}
use Rattle.mn_edge.specs.Files.{Files, file}
use Rattle.mn_capture.specs.Packets.{CaptureView, packets_in}
use Rattle.mn_join_run.specs.Ended.{Ended}
use Rattle.mn_join_run.specs.Ended.TheVariants as ended
use Rattle.mn_join_run.specs.Fault.{Fault}
use Rattle.mn_join_run.specs.Fault.TheVariants as fault
use Rattle.mn_script.specs.declared.command.Line.{Line}
use Rattle.mn_script.specs.Lines.{command_fits}
use Rattle.mn_script.specs.Script.{command_says, script_of, AllFit}
use Rattle.mn_pcap.specs.Reading as pcap
use Rattle.mn_topo.specs.Network.{Network}
use Rattle.mn_topo_toml.specs.Topology.{topology_of}
use Rattle.mn_run.specs.declared.load.Inputs.{Inputs}
use Rattle.mn_answer.specs.declared.outcome.Limit.TheVariants.{Steps}
use Rattle.mn_answer.specs.declared.outcome.Outcome.{Outcome}
use Rattle.mn_answer.specs.declared.outcome.Outcome.TheVariants.{Done, ReadFault, WriteFault, NoMemory, TooLarge}
use Rattle.mn_gen.specs.Topology.{topology_text}
use Rattle.mn_gen.specs.Script.{script_text}
use Rattle.mn_gen.specs.Capture.{capture_bytes}
use Rattle.mn_join_run.specs.Memory.{MemoryView, packets_at}
use Rattle.mn_run.specs.declared.generate.Made.{Made}
use Rattle.mn_answer.specs.Answer.{Answer, refusal_of, with_capture_bytes}
use Rattle.mn_answer.specs.Inputs.{LinesAre, LinesFit}
use Rattle.mn_run.specs.Answer.{run_done, answer_over, run_over}
use Rattle.mn_run.specs.Answer.{generated_done, generated_over, generated}

-- what follows a script follows this one, or its refusal is the answer
abbrev pub ScriptIs : Network → Option (List ℕ) → Result (Vec Line Global) Outcome → Type 0
ScriptIs topology input found = LinesAre (command_says topology) input found

-- its lines fit the topology, and are few, also where the shelf tells no content
abbrev pub ScriptFits : Network → Result (Vec Line Global) Outcome → Type 0
ScriptFits topology found = LinesFit (λ (line : Line). command_fits topology line.command) found

-- the same of a capture in memory
abbrev pub HeldIs : List ℕ → Result MemoryView Outcome → Type 0
HeldIs bytes (Ok capture) =
    (pcap.packets_of bytes ≡ Ok (packets_at capture)) × ((next : List (List ℕ) → Option Answer) → with_capture_bytes bytes next ≡ next (packets_at capture))
HeldIs bytes (Err outcome) = (next : List (List ℕ) → Option Answer) → with_capture_bytes bytes next ≡ Some (refusal_of outcome)

-- script and capture over a topology, and all three inputs: they were read, and the answer is that of the run
pub record AreOver (topology : Network) (script capture : List ℕ) (files : Files) (inputs : Inputs) : Type 0 where
  pub bytes : List ℕ
  pub there : file files capture ≡ Some bytes
  pub over : inputs.topology ≡ topology
  pub script_read : option_map (script_of topology) (file files script) ≡ Some (Ok inputs.lines.items)
  pub capture_read : option_map pcap.packets_of (file files capture) ≡ Some (Ok (packets_in inputs.capture bytes))
  pub answer : (folder : List ℕ) →
      answer_over folder files script capture topology ≡ Some (run_done folder topology inputs.lines.items (packets_in inputs.capture bytes))

pub record AreRead (topology script capture : List ℕ) (files : Files) (inputs : Inputs) : Type 0 where
  pub over : AreOver inputs.topology script capture files inputs
  pub topology_read : option_map topology_of (file files topology) ≡ Some (Ok inputs.topology)
  pub answer : (folder : List ℕ) → run_over topology script capture folder files ≡ answer_over folder files script capture inputs.topology

-- or one was refused, and that is the answer
abbrev pub OverIs : Network → List ℕ → List ℕ → Files → Result Inputs Outcome → Type 0
OverIs topology script capture files (Ok inputs) = AreOver topology script capture files inputs
OverIs topology script capture files (Err outcome) = (folder : List ℕ) → answer_over folder files script capture topology ≡ Some (refusal_of outcome)

abbrev pub LoadedIs : List ℕ → List ℕ → List ℕ → Files → Result Inputs Outcome → Type 0
LoadedIs topology script capture files (Ok inputs) = AreRead topology script capture files inputs
LoadedIs topology script capture files (Err outcome) = (folder : List ℕ) → run_over topology script capture folder files ≡ Some (refusal_of outcome)

abbrev pub InputsFit : List ℕ → Result Inputs Outcome → Type 0
InputsFit name (Ok inputs) = AllFit inputs.topology inputs.lines.items × (length inputs.lines.items ≤ most_script_lines) × (inputs.capture.name ≡ name)
InputsFit name (Err outcome) = ⊤

-- script and capture of the generator's number over a topology, and all three inputs: they were read, and the answer is that of
-- their run
pub record AreMadeOver (number : ℕ) (topology : Network) (made : Made) : Type 0 where
  pub over : made.topology ≡ topology
  pub script_read : script_of topology (script_text number) ≡ Ok made.lines.items
  pub capture_read : pcap.packets_of (capture_bytes number) ≡ Ok (packets_at made.capture)
  pub answer : generated_over number topology ≡ Some (generated_done number topology made.lines.items (packets_at made.capture))
  pub fit : AllFit topology made.lines.items
  pub few : length made.lines.items ≤ most_script_lines

pub record AreMade (number : ℕ) (made : Made) : Type 0 where
  pub over : AreMadeOver number made.topology made
  pub topology_read : topology_of (topology_text number) ≡ Ok made.topology
  pub answer : generated number ≡ Some (generated_done number made.topology made.lines.items (packets_at made.capture))

-- or one was refused, and that is the answer
abbrev pub MadeOverIs : ℕ → Network → Result Made Outcome → Type 0
MadeOverIs number topology (Ok made) = AreMadeOver number topology made
MadeOverIs number topology (Err outcome) = generated_over number topology ≡ Some (refusal_of outcome)

abbrev pub MadeIs : ℕ → Result Made Outcome → Type 0
MadeIs number (Ok made) = AreMade number made
MadeIs number (Err outcome) = generated number ≡ Some (refusal_of outcome)

-- how a call ends that played a script
abbrev pub outcome_of : Result Ended Fault → Outcome
outcome_of (Ok ended.All) = Done
outcome_of (Ok ended.TooManySteps) = TooLarge Steps most_steps
outcome_of (Err fault.Read) = ReadFault
outcome_of (Err fault.Write) = WriteFault
outcome_of (Err fault.NoMemory) = NoMemory

-- where the shelf tells the capture's file, this holds of the answer of the run
abbrev pub ForDone : (Option Answer → Files → Type 0) → List ℕ → Network → List Line → CaptureView → Option Files → Type 0
ForDone P folder topology lines capture files =
    ForSome files (λ m. ForSome (file m capture.name) (λ bytes. P (Some (run_done folder topology lines (packets_in capture bytes))) m))
