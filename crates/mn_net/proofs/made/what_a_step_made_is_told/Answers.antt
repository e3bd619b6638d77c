use Rattle.mn_net.proofs.Making.{made_is_told}
use Rattle.mn_net.proofs.made.what_a_step_made_is_told.Goals as goal

pub returns : goal.returns
returns c = made_is_told
