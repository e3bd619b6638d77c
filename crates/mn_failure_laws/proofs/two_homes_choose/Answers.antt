use Rattle.mn_failure_laws.proofs.Homes.{choose}
use Rattle.mn_failure_laws.proofs.two_homes_choose.Goals as goal

pub returns : goal.returns
returns c = choose
