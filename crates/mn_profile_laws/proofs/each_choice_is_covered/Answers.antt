use Rattle.mn_profile_laws.proofs.Choosing.{covers}
use Rattle.mn_profile_laws.proofs.each_choice_is_covered.Goals as goal

pub returns : goal.returns
returns c = covers
