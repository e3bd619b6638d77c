use Rattle.mn_failure_laws.proofs.Fates.{verdicts}
use Rattle.mn_failure_laws.proofs.verdicts_go_by_what_is_there.Goals as goal

pub returns : goal.returns
returns c = verdicts
