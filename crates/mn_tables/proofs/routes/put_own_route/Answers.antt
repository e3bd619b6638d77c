use Rattle.mn_tables.proofs.Telling.{tells_as}
use Rattle.mn_tables.proofs.Rows.{own_row}
use Rattle.mn_tables.proofs.routes.put_own_route.Goals as goal

pub returns : goal.returns
returns g c = λ given route is_prefix is_own is_site. tells_as _ _ _ _ _ c.put_pieces.ensures
    (own_row c.args.topology.now given c.args.held.vrf.0 route c.args.site.0 _ _ _ c.vrf_name-table.ensures is_prefix c.site_name-place.ensures
    is_own is_site)
