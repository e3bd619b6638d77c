use Rattle.std.proofs.Common.{◌∙◌, ap, refl, subst}
use Rattle.mn_edge.specs.Files.{file}
use Rattle.mn_answer.specs.Inputs.{LinesAre, LinesFit}
use Rattle.mn_answer.specs.Endings.{TextIs}
use Rattle.mn_answer.specs.Answer.{with_lines_of}
use Rattle.mn_answer.proofs.Ending.{fault_answers, memory_answers, sink_caused, caused_read}
use Rattle.std.specs.Prelude.{Some}
use Rattle.mn_flood_run.specs.declared.command.FloodLine.{FloodLine}
use Rattle.mn_flood_run.specs.Language.{flood_says, command_fits}
use Rattle.mn_flood_run.specs.Answer.{flood_done, flood_over}
use Rattle.mn_flood_run.proofs.Endings.{script_told}
use Rattle.mn_flood_run.proofs.run.flood_script.Goals as goal

pub returns-in-Ok-Ok-clause-told : goal.returns-in-Ok-Ok-clause-told
returns-in-Ok-Ok-clause-told g c = λ files is before begun.
    let t = c.args.topology.now in
    let read = subst (LinesAre (flood_says t) (file files c.args.script.now)) c.in-Ok-Ok.field-0-is (c.in-Ok-Ok.ensures.answer files is) in
    let fit = subst (LinesFit (λ (line : FloodLine). command_fits t line.command)) c.in-Ok-Ok.field-0-is c.in-Ok-Ok.ensures.fits in
    script_told t c.in-Ok-Ok.lines.items c.args.script.now files before _ c.flood_lines.result read.0
    (c.where_none_flies_the_printed_trees_are_those_of_the_links.ensures t c.in-Ok-Ok.lines.items c.laws.ensures fit.0)
    (c.each_drain_of_a_script_is_bounded.ensures t c.in-Ok-Ok.lines.items c.laws.ensures fit.0)
    (subst (λ lines. TextIs (Some (flood_done t lines)) before (g.O.Sink.written c.flood_lines.new.out) c.flood_lines.result) c.as_slice.ensures.value
    (c.flood_lines.ensures.text before begun))

pub returns-in-Err-Failed-clause-answers : goal.returns-in-Err-Failed-clause-answers
returns-in-Err-Failed-clause-answers g c = λ files is.
    fault_answers (flood_over files c.args.script.now c.args.topology.now) files _ _ (c.load_lines.ensures.same ∙ is)

pub returns-in-Err-NoMemory-clause-answers : goal.returns-in-Err-NoMemory-clause-answers
returns-in-Err-NoMemory-clause-answers g c = λ files is.
    memory_answers (flood_over files c.args.script.now c.args.topology.now) files _ _ (c.load_lines.ensures.same ∙ is)

pub returns-in-Ok-Ok-clause-cause : goal.returns-in-Ok-Ok-clause-cause
returns-in-Ok-Ok-clause-cause g c = sink_caused _ _ _ c.flood_lines.result c.in-Ok-Ok.ensures.reads c.load_lines.ensures.writes c.flood_lines.ensures.cause

pub returns-in-Ok-Err-clause-cause : goal.returns-in-Ok-Err-clause-cause
returns-in-Ok-Err-clause-cause g c = sink_caused _ _ _ c.refuse.result c.in-Ok-Err.ensures.reads c.load_lines.ensures.writes c.refuse.ensures.cause

pub returns-in-Err-Failed-clause-cause : goal.returns-in-Err-Failed-clause-cause
returns-in-Err-Failed-clause-cause g c =
    caused_read _ _ _ _ c.load_lines.ensures.writes refl
    (λ absent files is. ap (λ input. with_lines_of (flood_says c.args.topology.now) input (λ lines. Some (flood_done c.args.topology.now lines)))
    (absent files is))
    (rw c.in-Err-Failed.field-0-is at c.in-Err-Failed.ensures.reads)
