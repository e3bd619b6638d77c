use Rattle.mn_ledger.proofs.Order.{tidy}
use Rattle.mn_ledger.proofs.laws.lists_are_tidy.Goals as goal

pub returns : goal.returns
returns c = tidy
