use Rattle.mn_ledger.proofs.Eligible.{fair_choice}
use Rattle.mn_ledger.proofs.laws.the_choice_is_fair.Goals as goal

pub returns : goal.returns
returns c = λ t es ps edge v address lawful journal. fair_choice t es ps lawful journal edge v address
