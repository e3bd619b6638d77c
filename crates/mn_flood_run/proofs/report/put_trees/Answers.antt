use Rattle.std.proofs.Common.{◌<◌, ◌≤◌, arith}
use Rattle.std.specs.Prelude.{length}
use Rattle.mn_topo.specs.Network.{wiring_of}
use Rattle.mn_flood_laws.specs.Flood.{flooded}
use Rattle.mn_tables.proofs.Telling.{told_nothing, told_next_number, tells_cut_number, tells_all_numbers}
use Rattle.mn_flood_run.specs.Report.{tree_text}
use Rattle.mn_flood_run.proofs.report.put_trees.Goals as goal

pub loop-node-init : goal.loop-node-init
loop-node-init g c = told_nothing _

pub loop-node-preserved : goal.loop-node-preserved
loop-node-preserved g c =
    let below : c.loop-node.node < length c.args.topology.now.loopbacks = omega arith in
    told_next_number (λ node. tree_text c.args.topology.now (flooded (wiring_of c.args.topology.now) c.args.flood.now.world node) node)
    (length c.args.topology.now.loopbacks) c.loop-node.node _ _ _ below c.loop-node.invariant c.in_ok-put_tree_of.ensures

pub returns-in_err-put_tree_of : goal.returns-in_err-put_tree_of
returns-in_err-put_tree_of g c =
    let below : c.loop-node.node < length c.args.topology.now.loopbacks = omega arith in
    tells_cut_number (λ node. tree_text c.args.topology.now (flooded (wiring_of c.args.topology.now) c.args.flood.now.world node) node)
    (length c.args.topology.now.loopbacks) c.loop-node.node _ _ _ _ _ c.from_residual.ensures below c.loop-node.invariant c.in_err-put_tree_of.ensures

pub returns : goal.returns
returns g c =
    let past : length c.args.topology.now.loopbacks ≤ c.loop-node.node = omega arith in
    tells_all_numbers (λ node. tree_text c.args.topology.now (flooded (wiring_of c.args.topology.now) c.args.flood.now.world node) node)
    (length c.args.topology.now.loopbacks) c.loop-node.node _ _ past c.loop-node.invariant
