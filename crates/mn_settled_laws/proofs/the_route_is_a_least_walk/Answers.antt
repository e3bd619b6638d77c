use Rattle.mn_settled_laws.proofs.LeastWay.{route_is_least}
use Rattle.mn_settled_laws.proofs.the_route_is_a_least_walk.Goals as goal

pub returns : goal.returns
returns c = route_is_least
