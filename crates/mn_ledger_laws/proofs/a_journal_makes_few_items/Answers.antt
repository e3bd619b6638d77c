use Rattle.mn_ledger_laws.proofs.Few.{makes_few}
use Rattle.mn_ledger_laws.proofs.a_journal_makes_few_items.Goals as goal

pub returns : goal.returns
returns c = makes_few
