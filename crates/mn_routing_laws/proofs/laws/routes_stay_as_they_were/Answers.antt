use Rattle.mn_routing_laws.proofs.Others.{stay}
use Rattle.mn_routing_laws.proofs.laws.routes_stay_as_they_were.Goals as goal

pub returns : goal.returns
returns c = stay
