use Rattle.mn_failure_laws.proofs.Left.{left}
use Rattle.mn_failure_laws.proofs.a_failure_says_what_is_left.Goals as goal

pub returns : goal.returns
returns c = left
