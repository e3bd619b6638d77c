use Rattle.mn_ledger_laws.proofs.Counted.{flies_as_counted}
use Rattle.mn_ledger_laws.proofs.what_flies_counts.Goals as goal

pub returns : goal.returns
returns c = flies_as_counted
