use Rattle.std.proofs.Common.{◌≡◌, ◌++◌, map, take}
use Rattle.mn_topo.specs.Homes.{site_at}
use Rattle.mn_candidates.specs.Routes.{held_as, route_over}
use Rattle.mn_candidates.proofs.routes.push_routes.Given as goal

abbrev pub invariant-loop-prefix : goal.invariant-loop-prefix
invariant-loop-prefix l =
    map held_as l.routes.items
    ≡ map held_as l.fn.routes.items ++ map (route_over l.topology l.fn.vrf.0 l.site.0) (take l.prefix-index (site_at l.topology l.site.0).prefixes)
