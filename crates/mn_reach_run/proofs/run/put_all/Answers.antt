use Rattle.std.proofs.Common.{[], refl}
use Rattle.mn_tables.specs.Telling.{standing}
use Rattle.mn_tables.proofs.Telling.{tells_want}
use Rattle.mn_answer.proofs.Putting.{all_put, part_if_err, part_if_end_errs}
use Rattle.mn_reach_run.specs.Report.{report}
use Rattle.mn_reach_run.proofs.run.put_all.Goals as goal

pub returns-in_err-player-clause-part : goal.returns-in_err-player-clause-part
returns-in_err-player-clause-part g c =
    let text = report c.args.topology.now c.args.lines.now in
    let wanted = tells_want text (standing [] (g.O.Sink.written c.args.out.now) (g.O.Sink.faults c.args.out.now)) in
    part_if_err _ text [] _ _ refl wanted.part

pub returns-in_err-put_report-clause-part : goal.returns-in_err-put_report-clause-part
returns-in_err-put_report-clause-part g c =
    part_if_err _ (report c.args.topology.now c.args.lines.now) _ _ _ c.in_ok-player.ensures.page c.in_err-put_report.ensures.part

pub returns-in_err-end-clause-part : goal.returns-in_err-end-clause-part
returns-in_err-end-clause-part g c =
    part_if_end_errs _ (report c.args.topology.now c.args.lines.now) _ _ _ c.in_ok-player.ensures.page _ _ c.in_ok-put_report.ensures.put
    c.in_err-end.ensures.part

pub returns-clause-put : goal.returns-clause-put
returns-clause-put g c = λ before is.
    all_put (report c.args.topology.now c.args.lines.now) before _ _ _ _ _ _ c.in_ok-player.ensures.page is c.in_ok-put_report.ensures.put
    c.in_ok-end.ensures.put
    c.in_ok-end.ensures.ended
