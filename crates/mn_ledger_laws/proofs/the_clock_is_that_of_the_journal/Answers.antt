use Rattle.mn_ledger_laws.proofs.Aging.{clock_is}
use Rattle.mn_ledger_laws.proofs.the_clock_is_that_of_the_journal.Goals as goal

pub returns : goal.returns
returns c = clock_is
