use Rattle.mn_ledger.proofs.Parts.{last_steps_decide}
use Rattle.mn_ledger.proofs.laws.last_steps_decide.Goals as goal

pub returns : goal.returns
returns c = last_steps_decide
