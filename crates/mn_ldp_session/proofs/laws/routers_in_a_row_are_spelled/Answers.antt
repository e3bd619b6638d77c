use Rattle.mn_ldp_session.proofs.InARow.{spelled}
use Rattle.mn_ldp_session.proofs.laws.routers_in_a_row_are_spelled.Goals as goal

pub returns : goal.returns
returns c = spelled
