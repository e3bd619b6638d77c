use Rattle.mn_slice_laws.proofs.Nodes.{begins}
use Rattle.mn_slice_laws.proofs.laws.a_node_begins_fresh.Goals as goal

pub returns : goal.returns
returns c = begins
