use Rattle.mn_failure_laws.proofs.Fates.{fates}
use Rattle.mn_failure_laws.proofs.fates_go_by_what_is_there.Goals as goal

pub returns : goal.returns
returns c = fates
