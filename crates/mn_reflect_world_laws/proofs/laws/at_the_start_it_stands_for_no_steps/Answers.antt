use Rattle.mn_reflect_world_laws.proofs.Starting.{starts}
use Rattle.mn_reflect_world_laws.proofs.laws.at_the_start_it_stands_for_no_steps.Goals as goal

pub returns : goal.returns
returns c = starts
