use Rattle.mn_reflect_world_laws.proofs.AtRest.{come_to_rest}
use Rattle.mn_reflect_world_laws.proofs.laws.two_edges_come_to_rest.Goals as goal

pub returns : goal.returns
returns c = come_to_rest
