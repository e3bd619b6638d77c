use Rattle.std.proofs.Common.{◌++◌, ap, ◌∙◌}
use Rattle.mn_edge.specs.declared.device.DeviceBad.TheVariants.{NoMemory}
use Rattle.mn_ledger.specs.Ledger.{packets_of}
use Rattle.mn_lines.specs.Lines.{total_line}
use Rattle.mn_net.specs.Now.{StandsFor}
use Rattle.mn_tables.specs.Telling.{standing}
use Rattle.mn_tables.proofs.Telling.{tells_as, tells_err, tells_want}
use Rattle.mn_report.specs.Shown.{totals_by}
use Rattle.mn_report.proofs.Standing.{put_where, part_where}
use Rattle.mn_report.proofs.total.put_total.Goals as goal

pub returns-then-not-works-clause-part : goal.returns-then-not-works-clause-part
returns-then-not-works-clause-part g c =
    λ inputs h. (tells_want _ (standing c.args.page.now (g.O.Sink.written c.args.out.now) (g.O.Sink.faults c.args.out.now))).part

pub returns-in_err-write_total-clause-part : goal.returns-in_err-write_total-clause-part
returns-in_err-write_total-clause-part g c =
    part_where (StandsFor c.args.net.now)
    (λ inputs. total_line (totals_by c.args.net.now c.args.refused (packets_of c.args.net.now.topology c.args.net.now.journal inputs).verdicts))
    (standing c.args.page.now (g.O.Sink.written c.args.out.now) (g.O.Sink.faults c.args.out.now))
    (standing c.args.page.now (g.O.Sink.written c.args.out.now) (g.O.Sink.faults c.args.out.now)) _
    (λ inputs h. tells_err _ _ _ NoMemory _ c.from_residual.ensures (tells_want _ _))

pub returns-clause-put : goal.returns-clause-put
returns-clause-put g c =
    put_where (StandsFor c.args.net.now)
    (λ inputs. total_line (totals_by c.args.net.now c.args.refused (packets_of c.args.net.now.topology c.args.net.now.journal inputs).verdicts)) _ _ _
    (λ inputs h. tells_as _ _ _ _ _ c.put_line.ensures
    (c.as_slice.ensures.value ∙ c.in_ok-write_total.ensures.ok ∙ ap (λ xs. xs ++ total_line c.sum_up.result) c.clear.ensures.items
    ∙ ap total_line (c.sum_up.ensures inputs h)))

pub returns-clause-part : goal.returns-clause-part
returns-clause-part g c =
    part_where (StandsFor c.args.net.now)
    (λ inputs. total_line (totals_by c.args.net.now c.args.refused (packets_of c.args.net.now.topology c.args.net.now.journal inputs).verdicts)) _ _ _
    (λ inputs h. tells_as _ _ _ _ _ c.put_line.ensures
    (c.as_slice.ensures.value ∙ c.in_ok-write_total.ensures.ok ∙ ap (λ xs. xs ++ total_line c.sum_up.result) c.clear.ensures.items
    ∙ ap total_line (c.sum_up.ensures inputs h)))

pub returns-clause-cause : goal.returns-clause-cause
returns-clause-cause g c = c.put_line.ensures.cause
