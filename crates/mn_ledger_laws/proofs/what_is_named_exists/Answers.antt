use Rattle.mn_ledger_laws.proofs.Holding.{names_what_exists}
use Rattle.mn_ledger_laws.proofs.what_is_named_exists.Goals as goal

pub returns : goal.returns
returns c = names_what_exists
