use Rattle.mn_failure_laws.proofs.Cases.{cases}
use Rattle.mn_failure_laws.proofs.two_links_have_their_fates.Goals as goal

pub returns : goal.returns
returns c = cases
