use Rattle.mn_ledger.proofs.More.{goes_on}
use Rattle.mn_ledger.proofs.laws.one_entry_more.Goals as goal

pub returns : goal.returns
returns c = λ t es ps e b h. goes_on t es ps e b h
