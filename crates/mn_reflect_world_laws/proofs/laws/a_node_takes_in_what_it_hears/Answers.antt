use Rattle.mn_reflect_world_laws.proofs.Hearing.{takes_in}
use Rattle.mn_reflect_world_laws.proofs.laws.a_node_takes_in_what_it_hears.Goals as goal

pub returns : goal.returns
returns c = takes_in
