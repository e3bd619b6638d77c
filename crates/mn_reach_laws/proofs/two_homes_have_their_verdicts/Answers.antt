use Rattle.mn_reach_laws.proofs.Homed.{cases}
use Rattle.mn_reach_laws.proofs.two_homes_have_their_verdicts.Goals as goal

pub returns : goal.returns
returns c = cases
