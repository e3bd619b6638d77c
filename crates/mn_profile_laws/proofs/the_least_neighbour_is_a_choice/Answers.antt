use Rattle.mn_profile_laws.proofs.Choosing.{least_is_one}
use Rattle.mn_profile_laws.proofs.the_least_neighbour_is_a_choice.Goals as goal

pub returns : goal.returns
returns c = least_is_one
