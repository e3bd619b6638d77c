use Rattle.std.proofs.Common.{sym, ap}
use Rattle.mn_lines.specs.Names.{names_of}
use Rattle.mn_tables.proofs.Telling.{tells_as}
use Rattle.mn_join_run.specs.Report.{verdict_text}
use Rattle.mn_join_run.proofs.report.put_verdict.Goals as goal

pub returns-in-Delivered : goal.returns-in-Delivered
returns-in-Delivered g c =
    tells_as _ _ _ _ _ (c.put_delivered.ensures c.in-Delivered.copy) (ap (verdict_text (names_of c.args.topology.now)) (sym c.in-Delivered.is))

pub returns-in-Dropped : goal.returns-in-Dropped
returns-in-Dropped g c = tells_as _ _ _ _ _ c.put_dropped.ensures (ap (verdict_text (names_of c.args.topology.now)) (sym c.in-Dropped.is))

pub returns-in-Flying : goal.returns-in-Flying
returns-in-Flying g c = tells_as _ _ _ _ _ c.put_flying.ensures (ap (verdict_text (names_of c.args.topology.now)) (sym c.in-Flying.is))
