use Rattle.mn_settled_laws.proofs.Ways.{know_the_ways}
use Rattle.mn_settled_laws.proofs.settled_nodes_know_the_ways.Goals as goal

pub returns : goal.returns
returns c = know_the_ways
