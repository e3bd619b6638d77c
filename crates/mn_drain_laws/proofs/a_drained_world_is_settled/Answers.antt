use Rattle.mn_drain_laws.proofs.Drained.{drained_is_settled}
use Rattle.mn_drain_laws.proofs.a_drained_world_is_settled.Goals as goal

pub returns : goal.returns
returns c = drained_is_settled
