use Rattle.mn_failure_laws.proofs.Cases.{fail}
use Rattle.mn_failure_laws.proofs.two_links_fail.Goals as goal

pub returns : goal.returns
returns c = fail
