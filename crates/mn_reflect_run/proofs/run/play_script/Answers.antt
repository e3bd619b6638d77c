use Rattle.std.proofs.Common.{[], Some, refl, sym, ◌∙◌, ap, append-nil}
use Rattle.std.specs.Option.{ForSome}
use Rattle.mn_lines.specs.Putting.{PartPut}
use Rattle.mn_reflect_telling.specs.Mentions.{numbers_of}
use Rattle.mn_reflect_run.specs.Report.{report, course_of}
use Rattle.mn_answer.proofs.Putting.{on_err, all_put, part_put, part_ended}
use Rattle.mn_reflect_run.proofs.run.play_script.Goals as goal

pub returns-in_err-desk-clause-part : goal.returns-in_err-desk-clause-part
returns-in_err-desk-clause-part g c =
    let text = report c.args.topology.now (numbers_of c.args.script.now.reflectors) (course_of c.args.topology.now c.args.script.now) in
    on_err _
    (ForSome (g.O.Sink.written c.args.out.now) (λ before. PartPut text before (g.O.Sink.written c.args.out.now)))
    (λ before is. ([], (text, refl), is ∙ ap Some (sym (append-nil before))))

pub returns-in_err-outcome-clause-part : goal.returns-in_err-outcome-clause-part
returns-in_err-outcome-clause-part g c =
    let text = report c.args.topology.now (numbers_of c.args.script.now.reflectors) (course_of c.args.topology.now c.args.script.now) in
    on_err _
    (ForSome (g.O.Sink.written c.args.out.now) (λ before.
    PartPut (report c.args.topology.now (numbers_of c.args.script.now.reflectors) (course_of c.args.topology.now c.args.script.now)) before
    (g.O.Sink.written c.play_on_page.new.out)))
    (λ before is. part_put text before _ _ _ c.in_ok-desk.ensures is c.in_err-outcome.ensures.told.part)

pub returns-in_err-end-clause-part : goal.returns-in_err-end-clause-part
returns-in_err-end-clause-part g c =
    let text = report c.args.topology.now (numbers_of c.args.script.now.reflectors) (course_of c.args.topology.now c.args.script.now) in
    on_err _
    (ForSome (g.O.Sink.written c.args.out.now) (λ before.
    PartPut (report c.args.topology.now (numbers_of c.args.script.now.reflectors) (course_of c.args.topology.now c.args.script.now)) before
    (g.O.Sink.written c.end.new.out)))
    (λ before is. part_ended text before _ _ _ _ _ c.in_ok-desk.ensures is c.in_ok-outcome.ensures.told.put c.in_err-end.ensures.part)

pub returns-clause-put : goal.returns-clause-put
returns-clause-put g c = λ before is.
    all_put (report c.args.topology.now (numbers_of c.args.script.now.reflectors) (course_of c.args.topology.now c.args.script.now)) before _ _ _ _ _ _
    c.in_ok-desk.ensures is c.in_ok-outcome.ensures.told.put c.in_ok-end.ensures.put c.in_ok-end.ensures.ended
