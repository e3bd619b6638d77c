use Rattle.mn_bindings.proofs.History.{last}
use Rattle.mn_bindings.proofs.laws.what_is_kept_was_said_last.Goals as goal

pub returns : goal.returns
returns c = last
