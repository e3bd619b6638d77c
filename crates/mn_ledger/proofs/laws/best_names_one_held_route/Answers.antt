use Rattle.mn_ledger.proofs.Choice.{names_best}
use Rattle.mn_ledger.proofs.laws.best_names_one_held_route.Goals as goal

pub returns : goal.returns
returns c = λ t es ps edge v address lawful journal. names_best t es ps lawful journal edge v address
