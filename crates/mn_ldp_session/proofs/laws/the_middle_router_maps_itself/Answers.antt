use Rattle.mn_ldp_session.proofs.InARow.{worked}
use Rattle.mn_ldp_session.proofs.laws.the_middle_router_maps_itself.Goals as goal

pub returns : goal.returns
returns c = worked
