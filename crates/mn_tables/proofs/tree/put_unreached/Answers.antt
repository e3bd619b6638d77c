use Rattle.mn_tables.proofs.Telling.{tells_as}
use Rattle.mn_tables.proofs.Rows.{unreached_row}
use Rattle.mn_tables.proofs.tree.put_unreached.Goals as goal

pub returns : goal.returns
returns g c = λ view none. tells_as _ _ _ _ _ c.put_pieces.ensures
    (unreached_row c.args.topology.now view c.args.walk.from.0 c.args.walk.to.0 _ _ c.node_name-from.ensures c.node_name-there.ensures none)
