use Rattle.mn_ledger.proofs.Nearer.{nearer}
use Rattle.mn_ledger.proofs.laws.the_next_hop_is_nearer.Goals as goal

pub returns : goal.returns
returns c = nearer
