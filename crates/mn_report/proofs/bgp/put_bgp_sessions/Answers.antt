use Rattle.std.proofs.Common.{◌<◌, ◌≤◌, arith}
use Rattle.std.specs.Prelude.{length}
use Rattle.mn_ledger.specs.Ledger.{world_of}
use Rattle.mn_report.specs.Rows.{edge_rows}
use Rattle.mn_tables.proofs.Telling.{told_nothing, told_next_number, tells_cut_number, tells_all_numbers, tells_as}
use Rattle.mn_report.proofs.Rows.{all_edge_rows}
use Rattle.mn_report.proofs.bgp.put_bgp_sessions.Goals as goal

pub loop-a-init : goal.loop-a-init
loop-a-init g c = told_nothing _

pub loop-a-preserved : goal.loop-a-preserved
loop-a-preserved g c =
    let below : c.loop-a.a < length c.args.net.now.topology.loopbacks = omega arith in
    told_next_number (edge_rows c.args.net.now.topology (world_of c.args.net.now.topology c.args.net.now.journal))
    (length c.args.net.now.topology.loopbacks) c.loop-a.a _ _ _ below c.loop-a.invariant c.in_ok-put_pairs_of.ensures

pub returns-in_err-put_pairs_of : goal.returns-in_err-put_pairs_of
returns-in_err-put_pairs_of g c =
    let below : c.loop-a.a < length c.args.net.now.topology.loopbacks = omega arith in
    tells_as _ _ _ _ _
    (tells_cut_number (edge_rows c.args.net.now.topology (world_of c.args.net.now.topology c.args.net.now.journal))
    (length c.args.net.now.topology.loopbacks) c.loop-a.a _ _ _ _ _ c.from_residual.ensures below c.loop-a.invariant
    c.in_err-put_pairs_of.ensures) (all_edge_rows c.args.net.now.topology (world_of c.args.net.now.topology c.args.net.now.journal))

pub returns : goal.returns
returns g c =
    let past : length c.args.net.now.topology.loopbacks ≤ c.loop-a.a = omega arith in
    tells_as _ _ _ _ _
    (tells_all_numbers (edge_rows c.args.net.now.topology (world_of c.args.net.now.topology c.args.net.now.journal))
    (length c.args.net.now.topology.loopbacks) c.loop-a.a _ _ past c.loop-a.invariant)
    (all_edge_rows c.args.net.now.topology (world_of c.args.net.now.topology c.args.net.now.journal))
