use Rattle.mn_tables.proofs.Telling.{tells_as}
use Rattle.mn_tables.proofs.Rows.{far_row}
use Rattle.mn_tables.proofs.routes.put_with_mark.Goals as goal

pub returns : goal.returns
returns g c = λ given route address rd unresolved is_prefix is_far is_edge is_label is_mark. tells_as _ _ _ _ _ c.put_pieces.ensures
    (far_row c.args.topology.now given c.args.held.vrf.0 route address rd c.args.far.edge.0 c.args.far.label unresolved _ _ _ _ _
    c.vrf_name-table.ensures is_prefix c.node_name-teller.ensures c.digits-number.ensures is_mark is_far is_edge is_label)
