use Rattle.std.proofs.Common.{ap}
use Rattle.mn_lfib.specs.Forwarding.{forwarded}
use Rattle.mn_topo.specs.Network.{Network}
use Rattle.mn_output_laws.specs.Shown.{outcome_text, said_line}
use Rattle.mn_tables.proofs.Telling.{tells_as}
use Rattle.mn_report.proofs.Standing.{of_topology}
use Rattle.mn_report.proofs.Frames.{forwarded_row}
use Rattle.mn_report.proofs.frame.put_forwarded.Goals as goal

pub returns : goal.returns
returns g c =
    let t = c.args.net.now.topology in
    let at = c.args.shown in
    tells_as _ _ _ _ _
    (of_topology (λ (topology : Network). said_line topology at.node.0 at.number (outcome_text topology c.forward-outcome.result c.bytes.result.now)) t
    _ _ _ _ c.topology.ensures c.put_outcome.ensures)
    (ap (said_line t at.node.0 at.number)
    (forwarded_row t c.args.net.now.journal at.node.0 c.args.frame c.forward-outcome.new.frame c.forward-outcome.result c.bytes.result.now
    (forwarded c.transport.result.now.uses c.args.frame) c.requires.room c.forward-outcome.ensures.cases
    (c.a_table_is_told.ensures t c.args.net.now.journal at.node.0 c.transport.result.now.uses c.requires.node c.transport.ensures.told.table c.args.frame)
    c.bytes.ensures.bytes))
