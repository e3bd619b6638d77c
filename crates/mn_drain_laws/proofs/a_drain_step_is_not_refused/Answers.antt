use Rattle.mn_drain_laws.proofs.Drained.{drain_is_lawful}
use Rattle.mn_drain_laws.proofs.a_drain_step_is_not_refused.Goals as goal

pub returns : goal.returns
returns c = drain_is_lawful
