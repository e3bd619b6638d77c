use Rattle.mn_tables.proofs.Telling.{tells_as}
use Rattle.mn_tables.proofs.Frames.{head_row}
use Rattle.mn_tables.proofs.frame.put_head.Goals as goal

pub returns : goal.returns
returns g c = tells_as _ _ _ _ _ c.put_pieces.ensures
    (head_row c.args.topology.now c.args.frame.node.0 c.args.frame.number _ _ c.node_name-name.ensures c.digits-count.ensures)
