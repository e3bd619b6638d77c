use Rattle.mn_settled_laws.proofs.Lookup.{looks_up}
use Rattle.mn_settled_laws.proofs.settled_edges_look_up_their_routes.Goals as goal

pub returns : goal.returns
returns c = looks_up
