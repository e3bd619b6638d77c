use Rattle.mn_lsr.proofs.Inside.{heard}
use Rattle.mn_lsr.proofs.laws.what_is_said_is_one_change.Goals as goal

pub returns : goal.returns
returns c = heard
