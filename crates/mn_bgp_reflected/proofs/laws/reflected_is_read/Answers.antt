use Rattle.mn_bgp_reflected.proofs.Messages.{reflected_again, reflected_takes, one_reflected}
use Rattle.mn_bgp_reflected.proofs.laws.reflected_is_read.Goals as goal

pub returns-clause-only : goal.returns-clause-only
returns-clause-only c = reflected_again

pub returns-clause-found : goal.returns-clause-found
returns-clause-found c = reflected_takes

pub returns-clause-one : goal.returns-clause-one
returns-clause-one c = one_reflected
