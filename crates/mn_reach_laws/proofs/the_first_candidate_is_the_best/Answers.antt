use Rattle.mn_reach_laws.proofs.First.{first_is_best}
use Rattle.mn_reach_laws.proofs.the_first_candidate_is_the_best.Goals as goal

pub returns : goal.returns
returns c = first_is_best
