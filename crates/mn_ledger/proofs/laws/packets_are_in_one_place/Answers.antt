use Rattle.mn_ledger.proofs.OnePlace.{in_one_place}
use Rattle.mn_ledger.proofs.laws.packets_are_in_one_place.Goals as goal

pub returns : goal.returns
returns c = in_one_place
