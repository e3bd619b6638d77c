use Rattle.std.proofs.Common.{◌<◌, ◌≤◌, arith}
use Rattle.std.specs.Prelude.{length}
use Rattle.mn_tables.proofs.Telling.{told_nothing, told_next_number, tells_cut_number, tells_all_numbers, tells_as}
use Rattle.mn_flood_run.specs.Playing.{walk_row}
use Rattle.mn_flood_run.proofs.Rows.{tree_rows}
use Rattle.mn_flood_run.proofs.report.put_tree.Goals as goal

pub loop-to-init : goal.loop-to-init
loop-to-init g c = λ view is. told_nothing _

pub loop-to-preserved : goal.loop-to-preserved
loop-to-preserved g c = λ view is.
    let below : c.loop-to.to < length c.args.topology.now.loopbacks = omega arith in
    told_next_number (walk_row c.args.topology.now view c.args.node.0) (length c.args.topology.now.loopbacks) c.loop-to.to _ _ _ below
    (c.loop-to.invariant view is)
    (c.in_ok-put_walk_to.ensures view is)

pub returns-in_err-put_walk_to : goal.returns-in_err-put_walk_to
returns-in_err-put_walk_to g c = λ view is.
    let below : c.loop-to.to < length c.args.topology.now.loopbacks = omega arith in
    tells_as _ _ _ _ _
    (tells_cut_number (walk_row c.args.topology.now view c.args.node.0) (length c.args.topology.now.loopbacks) c.loop-to.to _ _ _ _ _ c.from_residual.ensures
    below
    (c.loop-to.invariant view is) (c.in_err-put_walk_to.ensures view is)) (tree_rows c.args.topology.now view c.args.node.0)

pub returns : goal.returns
returns g c = λ view is.
    let past : length c.args.topology.now.loopbacks ≤ c.loop-to.to = omega arith in
    tells_as _ _ _ _ _
    (tells_all_numbers (walk_row c.args.topology.now view c.args.node.0) (length c.args.topology.now.loopbacks) c.loop-to.to _ _ past
    (c.loop-to.invariant view is))
    (tree_rows c.args.topology.now view c.args.node.0)
