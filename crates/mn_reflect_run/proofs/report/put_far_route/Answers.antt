use Rattle.std.proofs.Common.{◌∙◌}
use Rattle.mn_tables.proofs.Telling.{tells_as}
use Rattle.mn_reflect_run.proofs.Rows.{name_there, far_row}
use Rattle.mn_reflect_run.proofs.report.put_far_route.Goals as goal

pub returns : goal.returns
returns g c = λ labels route address rd is_prefix is_far is_edge is_label. tells_as _ _ _ _ _ c.put_pieces.ensures
    (far_row c.args.topology.now labels c.args.vrf.0 route address rd c.args.edge.0 c.args.label _ _ _ _
    (name_there c.args.topology.now.vrf_names c.args.vrf.0 c.vrf_name-table.result.now c.vrf_name-table.ensures) is_prefix c.node_name-teller.ensures
    (c.as_bytes-number.ensures.value ∙ c.format.ensures.text) is_far is_edge is_label)
