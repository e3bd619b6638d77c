use Rattle.std.proofs.Common.{◌<◌, ◌≤◌, arith, sym, ◌∙◌}
use Rattle.std.specs.Prelude.{length}
use Rattle.mn_ledger.specs.Ledger.{world_of}
use Rattle.mn_report.specs.Rows.{pair_row}
use Rattle.mn_tables.proofs.Telling.{told_nothing, told_next_number, tells_cut_number, tells_all_numbers, tells_as, tells_nothing}
use Rattle.mn_report.proofs.Rows.{pair_rows, no_edge_rows}
use Rattle.mn_report.proofs.bgp.put_pairs_of.Goals as goal

pub loop-b-init : goal.loop-b-init
loop-b-init g c = told_nothing _

pub loop-b-preserved : goal.loop-b-preserved
loop-b-preserved g c =
    let below : c.loop-b.b < length c.args.net.now.topology.loopbacks = omega arith in
    told_next_number (pair_row c.args.net.now.topology (world_of c.args.net.now.topology c.args.net.now.journal) c.args.a.0)
    (length c.args.net.now.topology.loopbacks) c.loop-b.b _ _ _ below c.loop-b.invariant c.in_ok-put_pair.ensures

pub returns-in_err-put_pair : goal.returns-in_err-put_pair
returns-in_err-put_pair g c =
    let below : c.loop-b.b < length c.args.net.now.topology.loopbacks = omega arith in
    tells_as _ _ _ _ _ (tells_cut_number (pair_row c.args.net.now.topology (world_of c.args.net.now.topology c.args.net.now.journal) c.args.a.0)
    (length c.args.net.now.topology.loopbacks) c.loop-b.b _ _ _ _ _ c.from_residual.ensures below c.loop-b.invariant
    c.in_err-put_pair.ensures)
    (pair_rows c.args.net.now.topology (world_of c.args.net.now.topology c.args.net.now.journal) c.args.a.0
    (sym c.is_edge.ensures ∙ c.if-not-is_edge.false))

pub returns : goal.returns
returns g c =
    let past : length c.args.net.now.topology.loopbacks ≤ c.loop-b.b = omega arith in
    tells_as _ _ _ _ _ (tells_all_numbers (pair_row c.args.net.now.topology (world_of c.args.net.now.topology c.args.net.now.journal) c.args.a.0)
    (length c.args.net.now.topology.loopbacks) c.loop-b.b _ _ past c.loop-b.invariant)
    (pair_rows c.args.net.now.topology (world_of c.args.net.now.topology c.args.net.now.journal) c.args.a.0
    (sym c.is_edge.ensures ∙ c.if-not-is_edge.false))

pub returns-then-not-is_edge : goal.returns-then-not-is_edge
returns-then-not-is_edge g c =
    tells_as _ _ _ _ _ (tells_nothing _)
    (no_edge_rows c.args.net.now.topology (world_of c.args.net.now.topology c.args.net.now.journal) c.args.a.0
    (sym c.is_edge.ensures ∙ c.if-not-is_edge.true))
