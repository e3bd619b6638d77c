use Rattle.mn_flood_run.specs.Report.{report, course_of}
use Rattle.mn_answer.proofs.Putting.{all_put, part_if_err, part_if_end_errs}
use Rattle.mn_flood_run.proofs.run.play_script.Goals as goal

pub returns-in_err-outcome-clause-part : goal.returns-in_err-outcome-clause-part
returns-in_err-outcome-clause-part g c =
    part_if_err _ (report c.args.topology.now (course_of c.args.topology.now c.args.lines.now)) _ _ _ c.in_ok-page.ensures c.in_err-outcome.ensures.told.part

pub returns-in_err-end-clause-part : goal.returns-in_err-end-clause-part
returns-in_err-end-clause-part g c =
    part_if_end_errs _ (report c.args.topology.now (course_of c.args.topology.now c.args.lines.now)) _ _ _ c.in_ok-page.ensures _ _
    c.in_ok-outcome.ensures.told.put c.in_err-end.ensures.part

pub returns-clause-put : goal.returns-clause-put
returns-clause-put g c = λ before is.
    all_put (report c.args.topology.now (course_of c.args.topology.now c.args.lines.now)) before _ _ _ _ _ _ c.in_ok-page.ensures is
    c.in_ok-outcome.ensures.told.put c.in_ok-end.ensures.put c.in_ok-end.ensures.ended
