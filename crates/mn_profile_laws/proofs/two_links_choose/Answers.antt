use Rattle.mn_profile_laws.proofs.Cases.{choose}
use Rattle.mn_profile_laws.proofs.two_links_choose.Goals as goal

pub returns : goal.returns
returns c = choose
