use Rattle.mn_tables.proofs.Telling.{tells_as}
use Rattle.mn_tables.proofs.Rows.{bgp_row}
use Rattle.mn_tables.proofs.bgp.put_states.Goals as goal

pub returns : goal.returns
returns g c = λ world is_one is_other. tells_as _ _ _ _ _ c.put_pieces.ensures
    (bgp_row c.args.topology.now world c.args.one.edge.0 c.args.other.edge.0 _ _ _ _ c.node_name-from.ensures c.node_name-to.ensures is_one is_other)
