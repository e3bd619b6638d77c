use Rattle.mn_ledger.proofs.Quiet.{says_nothing}
use Rattle.mn_ledger.proofs.laws.who_learns_nothing_says_nothing.Goals as goal

pub returns : goal.returns
returns c = says_nothing
