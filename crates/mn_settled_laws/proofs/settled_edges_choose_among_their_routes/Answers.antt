use Rattle.mn_settled_laws.proofs.Lookup.{chooses}
use Rattle.mn_settled_laws.proofs.settled_edges_choose_among_their_routes.Goals as goal

pub returns : goal.returns
returns c = chooses
