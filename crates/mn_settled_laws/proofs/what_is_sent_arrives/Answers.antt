use Rattle.mn_settled_laws.proofs.Arrival.{has_arrived}
use Rattle.mn_settled_laws.proofs.what_is_sent_arrives.Goals as goal

pub returns : goal.returns
returns c = has_arrived
