use Rattle.mn_drain_laws.proofs.Taking.{drained_where_none_flies}
use Rattle.mn_drain_laws.proofs.a_drain_ends_where_nothing_flies.Goals as goal

pub returns : goal.returns
returns c = drained_where_none_flies
