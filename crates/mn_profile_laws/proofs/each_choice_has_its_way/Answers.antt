use Rattle.mn_profile_laws.proofs.Decided.{has_its_way}
use Rattle.mn_profile_laws.proofs.each_choice_has_its_way.Goals as goal

pub returns : goal.returns
returns c = has_its_way
