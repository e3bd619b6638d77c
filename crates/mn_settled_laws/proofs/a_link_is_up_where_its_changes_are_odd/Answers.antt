use Rattle.mn_settled_laws.proofs.Parity.{up_where_odd}
use Rattle.mn_settled_laws.proofs.a_link_is_up_where_its_changes_are_odd.Goals as goal

pub returns : goal.returns
returns c = up_where_odd
