-- What the generator makes, and the end of its run.
use Rattle.std.proofs.Common.{◌≡◌, ℕ, Bool, true, false, cond, nat_lt, if◌then◌else◌, List, Option, Some, Result}
use Rattle.std.proofs.Common.{Ok, Err, IfOk, Vec, Global, length, inr, refl, sym, ◌∙◌, ap, subst}
use Rattle.std.specs.Prelude.{option_map}
use Rattle.std.specs.Str.Lines.{lines}
use Rattle.mn_topo.specs.Network.{Network}
use Rattle.mn_topo_toml.specs.Topology.{topology_of}
use Rattle.mn_script.specs.declared.command.Line.{Line}
use Rattle.mn_script.specs.Script.{script_of}
use Rattle.mn_pcap.specs.Reading as pcap
use Rattle.mn_pcap.specs.Reading.{count_of}
use Rattle.mn_pcap.specs.declared.refusal.PcapBad.{PcapBad}
use Rattle.mn_pcap.specs.declared.refusal.PcapBad.TheVariants as bad
use Rattle.mn_course_laws.specs.Expansion.{expanded}
use Rattle.mn_gen.specs.Topology.{topology_text}
use Rattle.mn_gen.specs.Script.{script_text}
use Rattle.mn_gen.specs.Capture.{capture_bytes}
use Rattle.mn_join_run.specs.Ended.{Ended}
use Rattle.mn_join_run.specs.Ended.TheVariants as ended
use Rattle.mn_join_run.specs.Fault.{Fault}
use Rattle.mn_join_run.specs.Fault.TheVariants as fault
use Rattle.mn_join_run.specs.Faults.{SinkBlamed}
use Rattle.mn_join_run.specs.Memory.{MemoryView, packets_at}
use Rattle.mn_join_run.specs.Running.{is_stopped}
use Rattle.mn_join_run.specs.Total.{total_text, PutsWhole}
use Rattle.mn_run.specs.declared.generate.Made.{Made}
use Rattle.mn_answer.specs.declared.outcome.Outcome.{Outcome}
use Rattle.mn_answer.specs.declared.outcome.Outcome.TheVariants.{Done, TooLarge}
use Rattle.mn_answer.specs.declared.outcome.Limit.TheVariants.{CaptureBytes, CaptureRecords, Steps}
use Rattle.mn_answer.specs.Answer.{Answer, refusal_of, most_topology_bytes, most_script_bytes}
use Rattle.mn_answer.specs.Answer.{if_captured, with_capture_bytes, most_capture_bytes, most_capture_records}
use Rattle.mn_answer.specs.Inputs.{TopologyIs}
use Rattle.mn_run.specs.Answer.{generated_line, generated_done, generated_over, generated}
use Rattle.mn_base.specs.Limits.{most_script_lines}
use Rattle.mn_answer.specs.Endings.{OutcomeIs, TextIs, SinkCausedBy}
use Rattle.mn_run.specs.Jobs.{ScriptIs, ScriptFits, HeldIs, AreMadeOver, MadeOverIs, MadeIs, outcome_of}
use Rattle.mn_answer.proofs.Ending.{WritesNone, topology_bytes_write, script_bytes_write}

-- 1. Its inputs

read_is : {A E : Type 0} (f : List ℕ → Result A E) (bytes : List ℕ) (x : A) → option_map f (Some bytes) ≡ Some (Ok x) → f bytes ≡ Ok x
read_is f bytes x e = cc

-- script and capture over a topology
pub made_over : (number : ℕ) (t : Network) (lines : Vec Line Global) (capture : MemoryView) (script packed : List ℕ) → script ≡ script_text number →
    packed ≡ capture_bytes number
    → ScriptIs t (Some script) (Ok lines) → ScriptFits t (Ok lines) → HeldIs packed (Ok capture)
    → AreMadeOver number t (record { topology = t; lines = lines; capture = capture })
made_over number t lines capture script packed is packed_is read fits held =
    let script_read = subst (λ b. ScriptIs t (Some b) (Ok lines)) is read in
    let capture_read = subst (λ b. HeldIs b (Ok capture)) packed_is held in
    record {
      over = refl;
      script_read = read_is (script_of t) (script_text number) lines.items script_read.0;
      capture_read = capture_read.0;
      answer = script_read.1 (λ script. with_capture_bytes (capture_bytes number) (λ packets. Some (generated_done number t script packets)))
          ∙ capture_read.1 (λ packets. Some (generated_done number t lines.items packets));
      fit = fits.0;
      few = fits.1;
    }

-- the script was refused, or the capture
pub script_refused : (number : ℕ) (t : Network) (outcome : Outcome) (script : List ℕ) → script ≡ script_text number → ScriptIs t (Some script) (Err outcome)
    → MadeOverIs number t (Err outcome)
script_refused number t outcome script is read =
    subst (λ b. ScriptIs t (Some b) (Err outcome)) is read
    (λ script. with_capture_bytes (capture_bytes number) (λ packets. Some (generated_done number t script packets)))

pub capture_refused : (number : ℕ) (t : Network) (lines : Vec Line Global) (outcome : Outcome) (script packed : List ℕ) → script ≡ script_text number →
    packed ≡ capture_bytes number
    → ScriptIs t (Some script) (Ok lines) → HeldIs packed (Err outcome) → MadeOverIs number t (Err outcome)
capture_refused number t lines outcome script packed is packed_is read held =
    (subst (λ b. ScriptIs t (Some b) (Ok lines)) is read).1
    (λ script. with_capture_bytes (capture_bytes number) (λ packets. Some (generated_done number t script packets)))
    ∙ subst (λ b. HeldIs b (Err outcome)) packed_is held (λ packets. Some (generated_done number t lines.items packets))

-- a topology, and what was made over it
pub made : (number : ℕ) (t : Network) (l : Result Made Outcome) (bytes : List ℕ) → bytes ≡ topology_text number → TopologyIs (Some bytes) (Ok t) →
    MadeOverIs number t l → MadeIs number l
unfolding generated
made number t (Ok m) bytes is read over =
    let topology_read = subst (λ b. TopologyIs (Some b) (Ok t)) is read in
    let same : topology_of (topology_text number) ≡ Ok t = read_is topology_of (topology_text number) t topology_read.0 in
    record {
      over = subst (λ x. AreMadeOver number x m) (sym over.over) over;
      topology_read = same ∙ ap Ok (sym over.over);
      answer = topology_read.1 (generated_over number) ∙ over.answer
          ∙ ap (λ x. Some (generated_done number x m.lines.items (packets_at m.capture))) (sym over.over);
    }
made number t (Err outcome) bytes is read over = (subst (λ b. TopologyIs (Some b) (Ok t)) is read).1 (generated_over number) ∙ over

pub topology_refused : (number : ℕ) (outcome : Outcome) (bytes : List ℕ) → bytes ≡ topology_text number → TopologyIs (Some bytes) (Err outcome) →
    MadeIs number (Err outcome)
unfolding generated
topology_refused number outcome bytes is read = subst (λ b. TopologyIs (Some b) (Err outcome)) is read (generated_over number)

-- 2. The end of its run

module _ (number : ℕ) (t : Network) (lines : List Line) (packets : List (List ℕ)) where
  pub ends : (result : Result Ended Fault) → IfOk result (λ how. (expanded t packets lines).is_stopped ≡ is_stopped how)
      → OutcomeIs (Some (generated_done number t lines packets)) (outcome_of result)
  unfolding generated_done
  ends (Ok ended.All) h = ap (λ b. cond b (TooLarge Steps 4000000) Done) h
  ends (Ok ended.TooManySteps) h = ap (λ b. cond b (TooLarge Steps 4000000) Done) h
  ends (Err fault.Read) h = tt
  ends (Err fault.Write) h = tt
  ends (Err fault.NoMemory) h = tt

  pub tells : (before : List ℕ) (after : Option (List ℕ)) (result : Result Ended Fault)
      → PutsWhole (total_text (generated_line number) t packets (expanded t packets lines)) before after result
      → TextIs (Some (generated_done number t lines packets)) before after (outcome_of result)
  unfolding generated_done
  tells before after (Ok ended.All) h = h
  tells before after (Ok ended.TooManySteps) h = h
  tells before after (Err fault.Read) h = h
  tells before after (Err fault.Write) h = h
  tells before after (Err fault.NoMemory) h = h

pub sink_blames : (old new : Option ℕ) (result : Result Ended Fault) → SinkBlamed old new result → SinkCausedBy old new (outcome_of result)
sink_blames old new (Ok ended.All) h = (refl, refl, h)
sink_blames old new (Ok ended.TooManySteps) h = (refl, refl, h)
sink_blames old new (Err fault.Read) h = absurd h
sink_blames old new (Err fault.Write) h = (refl, inr (h, refl))
sink_blames old new (Err fault.NoMemory) h = (refl, refl, h)

-- 3. It writes no file

capture_writes : (found : Result (List (List ℕ)) PcapBad) (next : List (List ℕ) → Option Answer) →
    ((p : List (List ℕ)) → WritesNone (next p)) → WritesNone (if_captured found next)
capture_writes (Ok p) next h = h p
capture_writes (Err (bad.Refused rule place)) next h = refl
capture_writes (Err bad.NoMemory) next h = refl

capture_bytes_write : (b many : Bool) (found : Result (List (List ℕ)) PcapBad) (next : List (List ℕ) → Option Answer) →
    ((p : List (List ℕ)) → WritesNone (next p))
    → WritesNone
    (if b then Some (refusal_of (TooLarge CaptureBytes most_capture_bytes)) else if many then Some
    (refusal_of (TooLarge CaptureRecords most_capture_records)) else if_captured found next)
capture_bytes_write true many found next h = refl
capture_bytes_write false true found next h = refl
capture_bytes_write false false found next h = capture_writes found next h

done_writes : (number : ℕ) (t : Network) (script : List Line) (packets : List (List ℕ)) → WritesNone (Some (generated_done number t script packets))
unfolding generated_done
done_writes number t script packets = refl

pub generated_writes : (number : ℕ) → WritesNone (generated number)
unfolding generated
generated_writes number =
    topology_bytes_write (nat_lt most_topology_bytes (length (topology_text number))) (topology_of (topology_text number)) (generated_over number)
    (λ t. script_bytes_write (nat_lt most_script_bytes (length (script_text number))) (nat_lt most_script_lines (length (lines (script_text number))))
    (script_of t (script_text number))
    (λ script. with_capture_bytes (capture_bytes number) (λ packets. Some (generated_done number t script packets)))
    (λ script. capture_bytes_write (nat_lt most_capture_bytes (length (capture_bytes number)))
    (nat_lt most_capture_records (count_of (capture_bytes number))) (pcap.packets_of (capture_bytes number))
    (λ packets. Some (generated_done number t script packets)) (done_writes number t script)))
