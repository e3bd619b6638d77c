use Rattle.mn_failure_laws.proofs.Told.{by_the_chosen}
use Rattle.mn_failure_laws.proofs.fates_go_by_the_chosen_candidate.Goals as goal

pub returns : goal.returns
returns c = by_the_chosen
