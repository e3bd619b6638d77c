use Rattle.std.proofs.Common.{ap}
use Rattle.mn_edge.specs.declared.device.DeviceBad.TheVariants.{NoMemory}
use Rattle.mn_tables.proofs.Telling.{told_by, tells_as, tells_then, tells_first, tells_err, tells_want}
use Rattle.mn_join_run.specs.Report.{total_line}
use Rattle.mn_join_run.proofs.report.put_ended.Goals as goal

pub returns-in_err-sites : goal.returns-in_err-sites
returns-in_err-sites g c = λ pairing run stands is. tells_err _ _ _ NoMemory _ c.from_residual.ensures (tells_want _ _)

pub returns-in_err-put_packets : goal.returns-in_err-put_packets
returns-in_err-put_packets g c = λ pairing run stands is.
    tells_first _ _ _ _ _ _ c.from_residual-in_err-put_packets.ensures
    (c.in_err-put_packets.ensures pairing run stands (c.in_ok-sites.ensures pairing run.both stands) is)

pub returns : goal.returns
returns g c = λ pairing run stands is.
    tells_then _ _ _ _ _ _ (told_by _ _ _ (c.in_ok-put_packets.ensures pairing run stands (c.in_ok-sites.ensures pairing run.both stands) is))
    (tells_as _ _ _ _ _ c.put_total.ensures (ap total_line (c.totals_of.ensures pairing run.both stands)))
