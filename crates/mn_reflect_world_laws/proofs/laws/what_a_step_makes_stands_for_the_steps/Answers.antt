use Rattle.mn_reflect_world_laws.proofs.Onward.{goes_on}
use Rattle.mn_reflect_world_laws.proofs.laws.what_a_step_makes_stands_for_the_steps.Goals as goal

pub returns : goal.returns
returns c = goes_on
