use Rattle.mn_lsr.proofs.Inside.{speaks}
use Rattle.mn_lsr.proofs.laws.a_node_speaks_of_nodes.Goals as goal

pub returns : goal.returns
returns c = speaks
