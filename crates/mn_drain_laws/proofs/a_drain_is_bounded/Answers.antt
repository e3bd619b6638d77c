use Rattle.mn_drain_laws.proofs.Drain.{drain_is_bounded}
use Rattle.mn_drain_laws.proofs.a_drain_is_bounded.Goals as goal

pub returns : goal.returns
returns c = drain_is_bounded
