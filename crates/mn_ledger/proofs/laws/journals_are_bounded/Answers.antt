use Rattle.mn_ledger.proofs.Saying.{bounded}
use Rattle.mn_ledger.proofs.laws.journals_are_bounded.Goals as goal

pub returns : goal.returns
returns c = bounded
