use Rattle.mn_changing_laws.proofs.Walks.{no_node_twice}
use Rattle.mn_changing_laws.proofs.no_loop_no_node_twice.Goals as goal

pub returns : goal.returns
returns c = no_node_twice
