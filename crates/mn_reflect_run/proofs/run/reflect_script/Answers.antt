use Rattle.std.proofs.Common.{◌∙◌, Some, ap, refl, subst}
use Rattle.mn_edge.specs.Files.{file}
use Rattle.mn_answer.specs.Answer.{with_script_of}
use Rattle.mn_answer.proofs.Ending.{fault_answers, memory_answers, sink_caused, caused_read}
use Rattle.mn_reflect_run.specs.Language.{script_of}
use Rattle.mn_reflect_run.specs.Answer.{reflect_done, reflect_over, ScriptIs, ScriptFits}
use Rattle.mn_reflect_run.proofs.Endings.{script_told}
use Rattle.mn_reflect_run.proofs.run.reflect_script.Goals as goal

pub returns-in-Ok-Ok-clause-told : goal.returns-in-Ok-Ok-clause-told
returns-in-Ok-Ok-clause-told g c = λ files is before begun.
    let t = c.args.topology.now in
    let read = subst (ScriptIs t (file files c.args.script.now)) c.in-Ok-Ok.field-0-is (c.in-Ok-Ok.ensures.answer files is) in
    let fit = subst (ScriptFits t) c.in-Ok-Ok.field-0-is c.in-Ok-Ok.ensures.fits in
    script_told t c.in-Ok-Ok.lines c.args.script.now files before _ c.reflect_lines.result read.0
    (c.where_none_flies_the_printed_tables_are_those_of_the_mesh.ensures t c.in-Ok-Ok.lines c.laws.ensures fit.0)
    (c.each_drain_of_a_script_is_bounded.ensures t c.in-Ok-Ok.lines c.laws.ensures fit.0)
    (c.reflect_lines.ensures.text before begun)

pub returns-in-Err-Failed-clause-answers : goal.returns-in-Err-Failed-clause-answers
returns-in-Err-Failed-clause-answers g c = λ files is.
    fault_answers (reflect_over files c.args.script.now c.args.topology.now) files _ _ (c.load_script.ensures.same ∙ is)

pub returns-in-Err-NoMemory-clause-answers : goal.returns-in-Err-NoMemory-clause-answers
returns-in-Err-NoMemory-clause-answers g c = λ files is.
    memory_answers (reflect_over files c.args.script.now c.args.topology.now) files _ _ (c.load_script.ensures.same ∙ is)

pub returns-in-Ok-Ok-clause-cause : goal.returns-in-Ok-Ok-clause-cause
returns-in-Ok-Ok-clause-cause g c = sink_caused _ _ _ c.reflect_lines.result c.in-Ok-Ok.ensures.reads c.load_script.ensures.writes c.reflect_lines.ensures.cause

pub returns-in-Ok-Err-clause-cause : goal.returns-in-Ok-Err-clause-cause
returns-in-Ok-Err-clause-cause g c = sink_caused _ _ _ c.refuse.result c.in-Ok-Err.ensures.reads c.load_script.ensures.writes c.refuse.ensures.cause

pub returns-in-Err-Failed-clause-cause : goal.returns-in-Err-Failed-clause-cause
returns-in-Err-Failed-clause-cause g c =
    caused_read _ _ _ _ c.load_script.ensures.writes refl
    (λ absent files is. ap (λ input. with_script_of (script_of c.args.topology.now) input (λ read. Some (reflect_done c.args.topology.now read)))
    (absent files is))
    (rw c.in-Err-Failed.field-0-is at c.in-Err-Failed.ensures.reads)
