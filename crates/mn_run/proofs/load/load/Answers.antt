use Rattle.std.proofs.Common.{◌≡◌, ℕ, List, Option, Some, Result, Ok, ◌∙◌, ap, refl, subst}
use Rattle.mn_edge.specs.Faults.{CountedUnless}
use Rattle.mn_edge.specs.FaultLaws.{excused_by, counted_out}
use Rattle.mn_edge.specs.Files.{Files, file}
use Rattle.mn_edge.specs.declared.device.DeviceBad.{DeviceBad}
use Rattle.mn_topo.specs.Network.{Network}
use Rattle.mn_answer.specs.Endings.{HasNone}
use Rattle.mn_answer.specs.Inputs.{TopologyIs}
use Rattle.mn_answer.proofs.Results.{if_ok}
use Rattle.mn_answer.specs.Answer.{with_topology}
use Rattle.mn_run.specs.Answer.{answer_over, run_over}
use Rattle.mn_run.proofs.Loading.{loaded}
use Rattle.mn_run.proofs.load.load.Goals as goal

-- script or capture isn't there: over the topology there is no answer, whatever the folder
abbrev IsLacking : List ℕ → List ℕ → Network → Option Files → Type 0
IsLacking script capture over files = (folder : List ℕ) → HasNone (λ m. answer_over folder m script capture over) files

over_reads : {T : Type 0} (topology script capture : List ℕ) (over : Network) (old mid : Option Files) (first before now : Option ℕ)
    (result : Result T DeviceBad) → ((files : Files) → old ≡ Some files → TopologyIs (file files topology) (Ok over)) → mid ≡ old → before ≡ first →
    CountedUnless (IsLacking script capture over mid) before now result →
    CountedUnless ((folder : List ℕ) → HasNone (run_over topology script capture folder) old) first now result
over_reads topology script capture over old mid first before now result read same left counted =
    excused_by (IsLacking script capture over mid) ((folder : List ℕ) → HasNone (run_over topology script capture folder) old) first now result
    (λ none folder files is. (read files is).1 (answer_over folder files script capture) ∙ none folder files (same ∙ is))
    (subst (λ n. CountedUnless (IsLacking script capture over mid) n now result) left counted)

pub returns-in-Ok-clause-answer : goal.returns-in-Ok-clause-answer
returns-in-Ok-clause-answer g c = if_ok c.load_over.result _ _ (λ l h files is.
    loaded c.in-Ok.topology c.args.topology.now c.args.script.now c.args.capture.now files l
    (subst (TopologyIs (file files c.args.topology.now)) c.in-Ok.is (c.in_ok-topology.ensures.answer files is))
    (h files (c.in_ok-topology.ensures.same ∙ is))) c.load_over.ensures.answer

pub returns-in-Ok-clause-reads : goal.returns-in-Ok-clause-reads
returns-in-Ok-clause-reads g c =
    over_reads c.args.topology.now c.args.script.now c.args.capture.now c.in-Ok.topology _ _ _ _ _ c.load_over.result
    (λ files is. subst (TopologyIs (file files c.args.topology.now)) c.in-Ok.is (c.in_ok-topology.ensures.answer files is)) c.in_ok-topology.ensures.same
    c.in_ok-topology.ensures.reads c.load_over.ensures.reads

pub returns-in_err-topology-clause-reads : goal.returns-in_err-topology-clause-reads
returns-in_err-topology-clause-reads g c =
    counted_out _ _ _ _ _ _ _ c.from_residual.ensures refl
    (λ absent folder files is. ap (λ input. with_topology input (answer_over folder files c.args.script.now c.args.capture.now)) (absent files is))
    c.in_err-topology.ensures.reads
