use Rattle.mn_reflect_ledger_laws.proofs.Runs.{every_run}
use Rattle.mn_reflect_ledger_laws.proofs.each_end_says_what_it_offers.Goals as goal

pub returns : goal.returns
returns c = λ topology reflectors steps h. (every_run topology reflectors steps h).says
