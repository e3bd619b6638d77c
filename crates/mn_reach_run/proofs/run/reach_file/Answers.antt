use Rattle.std.proofs.Common.{◌∙◌, ap, refl, subst, sym}
use Rattle.std.specs.Prelude.{Some}
use Rattle.mn_edge.specs.Files.{file}
use Rattle.mn_answer.specs.Inputs.{LinesAre}
use Rattle.mn_answer.specs.Endings.{TextIs, OutcomeIs, Answers}
use Rattle.mn_answer.specs.Answer.{with_lines_of}
use Rattle.mn_answer.proofs.Ending.{fault_answers, memory_answers, sink_caused, sink_answers, caused_read}
use Rattle.mn_failures.specs.Language.{failure_says}
use Rattle.mn_reach_run.specs.Answer.{reach_done, reach_over}
use Rattle.mn_reach_run.specs.Fates.{failure_under, network_by}
use Rattle.mn_reach_run.proofs.Fated.{lawful_by}
use Rattle.mn_reach_run.proofs.Endings.{failures_told, writes_none}
use Rattle.mn_reach_run.proofs.run.reach_file.Goals as goal

pub returns-in-Ok-Ok-clause-told : goal.returns-in-Ok-Ok-clause-told
returns-in-Ok-Ok-clause-told g c = λ files is before begun.
    let t = c.args.topology.now in
    let read = subst (LinesAre (failure_says t) (file files c.args.failures.now)) c.in-Ok-Ok.field-0-is (c.in-Ok-Ok.ensures.answer files is) in
    failures_told t (Some c.args.failures.now) c.in-Ok-Ok.lines.items files before _ c.reach_lines.result read.0
    (λ resolve ends parts. c.each_packet_comes_to_its_fate.ensures (network_by t resolve) (failure_under t ends parts)
    (lawful_by t resolve c.laws.ensures))
    (subst (λ lines. TextIs (Some (reach_done t lines)) before (g.O.Sink.written c.reach_lines.new.out) c.reach_lines.result) c.as_slice.ensures.value
    (c.reach_lines.ensures.text before begun))
    (subst (λ lines. OutcomeIs (Some (reach_done t lines)) c.reach_lines.result) c.as_slice.ensures.value c.reach_lines.ensures.outcome)

pub returns-in-Ok-Ok-clause-answers : goal.returns-in-Ok-Ok-clause-answers
returns-in-Ok-Ok-clause-answers g c = λ files is.
    let t = c.args.topology.now in
    let read = subst (LinesAre (failure_says t) (file files c.args.failures.now)) c.in-Ok-Ok.field-0-is (c.in-Ok-Ok.ensures.answer files is) in
    subst (λ a. Answers a files (g.S.Shelf.files c.load_failures.new.shelf) (g.O.Sink.written c.args.out.now) (g.O.Sink.written c.reach_lines.new.out)
    c.reach_lines.result) (sym (read.1 (λ lines. Some (reach_done t lines))))
    (sink_answers (Some (reach_done t c.in-Ok-Ok.lines.items)) files _ _ _ (g.O.Sink.faults c.args.out.now) (g.O.Sink.faults c.reach_lines.new.out)
    c.reach_lines.result
    (writes_none t c.in-Ok-Ok.lines.items) (c.load_failures.ensures.same ∙ is)
    (subst (λ lines. OutcomeIs (Some (reach_done t lines)) c.reach_lines.result) c.as_slice.ensures.value c.reach_lines.ensures.outcome)
    (λ before begun. subst (λ lines. TextIs (Some (reach_done t lines)) before (g.O.Sink.written c.reach_lines.new.out) c.reach_lines.result)
    c.as_slice.ensures.value
    (c.reach_lines.ensures.text before begun)) c.reach_lines.ensures.cause)

pub returns-in-Err-Failed-clause-answers : goal.returns-in-Err-Failed-clause-answers
returns-in-Err-Failed-clause-answers g c = λ files is.
    fault_answers (reach_over files (Some c.args.failures.now) c.args.topology.now) files _ _ (c.load_failures.ensures.same ∙ is)

pub returns-in-Err-NoMemory-clause-answers : goal.returns-in-Err-NoMemory-clause-answers
returns-in-Err-NoMemory-clause-answers g c = λ files is.
    memory_answers (reach_over files (Some c.args.failures.now) c.args.topology.now) files _ _ (c.load_failures.ensures.same ∙ is)

pub returns-in-Ok-Ok-clause-cause : goal.returns-in-Ok-Ok-clause-cause
returns-in-Ok-Ok-clause-cause g c = sink_caused _ _ _ c.reach_lines.result c.in-Ok-Ok.ensures.reads c.load_failures.ensures.writes c.reach_lines.ensures.cause

pub returns-in-Ok-Err-clause-cause : goal.returns-in-Ok-Err-clause-cause
returns-in-Ok-Err-clause-cause g c = sink_caused _ _ _ c.refuse.result c.in-Ok-Err.ensures.reads c.load_failures.ensures.writes c.refuse.ensures.cause

pub returns-in-Err-Failed-clause-cause : goal.returns-in-Err-Failed-clause-cause
returns-in-Err-Failed-clause-cause g c =
    caused_read _ _ _ _ c.load_failures.ensures.writes refl
    (λ absent files is. ap (λ input. with_lines_of (failure_says c.args.topology.now) input (λ lines. Some (reach_done c.args.topology.now lines)))
    (absent files is))
    (rw c.in-Err-Failed.field-0-is at c.in-Err-Failed.ensures.reads)
