use Rattle.mn_settled_laws.proofs.Holding.{hold_their_routes}
use Rattle.mn_settled_laws.proofs.settled_edges_hold_their_routes.Goals as goal

pub returns : goal.returns
returns c = hold_their_routes
