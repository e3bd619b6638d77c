use Rattle.mn_failure_laws.proofs.Told.{first_told_is_best}
use Rattle.mn_failure_laws.proofs.the_first_that_is_told_is_the_best.Goals as goal

pub returns : goal.returns
returns c = first_told_is_best
