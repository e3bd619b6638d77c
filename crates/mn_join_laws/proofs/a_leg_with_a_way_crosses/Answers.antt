use Rattle.mn_join_laws.proofs.Passing.{it_crosses}
use Rattle.mn_join_laws.proofs.a_leg_with_a_way_crosses.Goals as goal

pub returns : goal.returns
returns c = it_crosses
