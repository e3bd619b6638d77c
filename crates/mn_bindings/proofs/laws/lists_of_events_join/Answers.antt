use Rattle.mn_bindings.proofs.History.{joined}
use Rattle.mn_bindings.proofs.laws.lists_of_events_join.Goals as goal

pub returns : goal.returns
returns c = joined
