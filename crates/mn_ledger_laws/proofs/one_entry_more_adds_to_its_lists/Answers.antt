use Rattle.mn_ledger_laws.proofs.Adding.{adds_to_its_lists}
use Rattle.mn_ledger_laws.proofs.one_entry_more_adds_to_its_lists.Goals as goal

pub returns : goal.returns
returns c = adds_to_its_lists
