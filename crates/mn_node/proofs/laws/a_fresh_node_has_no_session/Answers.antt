use Rattle.std.proofs.Common.{length}
use Rattle.mn_node.proofs.Lists.{none_there}
use Rattle.mn_node.proofs.laws.a_fresh_node_has_no_session.Goals as goal

pub returns : goal.returns
returns c = λ wiring me l. none_there (length wiring.ends) l
