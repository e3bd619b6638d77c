use Rattle.mn_ledger.proofs.Flows.{in_flight}
use Rattle.mn_ledger.proofs.laws.what_flies_has_not_arrived.Goals as goal

pub returns : goal.returns
returns c = in_flight
