use Rattle.std.proofs.Common.{Some, ap, refl, ◌∙◌, subst}
use Rattle.mn_edge.specs.FaultLaws.{counted_out}
use Rattle.mn_edge.specs.Files.{file}
use Rattle.mn_script.specs.Script.{command_says}
use Rattle.mn_answer.specs.Answer.{with_capture}
use Rattle.mn_answer.specs.Inputs.{LinesAre}
use Rattle.mn_run.specs.Answer.{run_done, with_script}
use Rattle.mn_run.proofs.load.load_over.Goals as goal

pub returns-in_err-lines-clause-reads : goal.returns-in_err-lines-clause-reads
returns-in_err-lines-clause-reads g c =
    counted_out _ _ _ _ _ _ _ c.from_residual.ensures refl
    (λ absent folder files is. ap (λ input. with_script c.args.topology input (λ lines.
    with_capture (file files c.args.capture.now) (λ packets. Some (run_done folder c.args.topology lines packets)))) (absent files is))
    c.in_err-lines.ensures.reads

pub returns-in_err-capture-clause-reads : goal.returns-in_err-capture-clause-reads
returns-in_err-capture-clause-reads g c =
    counted_out _ _ _ _ _ _ _ c.from_residual-in_err-capture.ensures c.in_ok-lines.ensures.reads
    (λ absent folder files is.
    let read = subst (LinesAre (command_says c.args.topology) (file files c.args.script.now)) c.in-Ok.is (c.in_ok-lines.ensures.answer files is) in
    read.1 (λ lines. with_capture (file files c.args.capture.now) (λ packets. Some (run_done folder c.args.topology lines packets)))
    ∙ ap (λ input. with_capture input (λ packets. Some (run_done folder c.args.topology c.in-Ok.lines.items packets)))
    (absent files (c.in_ok-lines.ensures.same ∙ is)))
    c.in_err-capture.ensures.reads
