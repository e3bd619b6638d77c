use Rattle.mn_failure_laws.proofs.Left.{alike_fates}
use Rattle.mn_failure_laws.proofs.alike_failures_have_the_same_fates.Goals as goal

pub returns : goal.returns
returns c = alike_fates
