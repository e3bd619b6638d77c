use Rattle.mn_reach_laws.proofs.Cases.{rest}
use Rattle.mn_reach_laws.proofs.two_links_rest.Goals as goal

pub returns : goal.returns
returns c = rest
