use Rattle.mn_failure_laws.proofs.Told.{stay}
use Rattle.mn_failure_laws.proofs.candidates_stay.Goals as goal

pub returns : goal.returns
returns c = stay
