use Rattle.mn_vpn_nlri.proofs.Routes.{route_is_read, read_is_route, read_within}
use Rattle.mn_vpn_nlri.proofs.laws.route_is_read.Goals as goal

pub returns-clause-only : goal.returns-clause-only
returns-clause-only c = route_is_read

pub returns-clause-found : goal.returns-clause-found
returns-clause-found c = read_is_route

pub returns-clause-within : goal.returns-clause-within
returns-clause-within c = read_within
