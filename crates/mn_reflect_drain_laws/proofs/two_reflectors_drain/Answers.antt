use Rattle.mn_reflect_drain_laws.proofs.Witness.{two_reflectors_drain}
use Rattle.mn_reflect_drain_laws.proofs.two_reflectors_drain.Goals as goal

pub returns : goal.returns
returns c = two_reflectors_drain
