use Rattle.mn_reflect_world_laws.proofs.Keeping.{keeps}
use Rattle.mn_reflect_world_laws.proofs.laws.a_node_keeps_what_is_announced.Goals as goal

pub returns : goal.returns
returns c = keeps
