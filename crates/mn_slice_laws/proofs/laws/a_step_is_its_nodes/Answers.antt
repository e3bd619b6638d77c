use Rattle.mn_slice_laws.proofs.Nodes.{by_nodes}
use Rattle.mn_slice_laws.proofs.laws.a_step_is_its_nodes.Goals as goal

pub returns : goal.returns
returns c = by_nodes
