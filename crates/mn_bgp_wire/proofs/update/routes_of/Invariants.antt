use Rattle.std.proofs.Common.{◌≡◌, length}
use Rattle.mn_vpn_nlri.specs.Reading.{routes_of, behind}
use Rattle.mn_bgp_wire.proofs.update.routes_of.Given as goal

abbrev pub invariant-routes : goal.invariant-routes
invariant-routes l = behind l.routes.items (routes_of l.rest) ≡ routes_of l.bytes

abbrev pub decreases-routes : goal.decreases-routes
decreases-routes l = length l.rest
