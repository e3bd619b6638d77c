use Rattle.mn_tables.proofs.Telling.{tells_as}
use Rattle.mn_tables.proofs.Rows.{near_row}
use Rattle.mn_tables.proofs.routes.put_near_route.Goals as goal

pub returns : goal.returns
returns g c = λ given route is_prefix is_near is_site. tells_as _ _ _ _ _ c.put_pieces.ensures
    (near_row c.args.topology.now given c.args.held.vrf.0 route c.args.near.vrf.0 c.args.near.site.0 _ _ _ _ c.vrf_name-table.ensures is_prefix
    c.vrf_name-other.ensures c.site_name-place.ensures is_near is_site)
