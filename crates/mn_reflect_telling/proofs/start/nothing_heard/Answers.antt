use Rattle.mn_edges.proofs.Starts.{rows_more}
use Rattle.mn_reflect_telling.proofs.start.nothing_heard.Goals as goal

pub loop-node-preserved : goal.loop-node-preserved
loop-node-preserved c =
    rows_more _ c.loop-node.rows.items c.push.new.self.items c.in_ok-row.row _ c.loop-node._node c.in_ok-push.ensures.items c.in_ok-row.ensures
    c.loop-node.invariant
