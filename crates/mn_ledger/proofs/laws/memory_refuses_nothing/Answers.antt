use Rattle.mn_ledger.proofs.Refusals.{never_for_memory}
use Rattle.mn_ledger.proofs.laws.memory_refuses_nothing.Goals as goal

pub returns : goal.returns
returns c = never_for_memory
