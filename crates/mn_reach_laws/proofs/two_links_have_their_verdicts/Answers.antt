use Rattle.mn_reach_laws.proofs.Cases.{cases}
use Rattle.mn_reach_laws.proofs.two_links_have_their_verdicts.Goals as goal

pub returns : goal.returns
returns c = cases
