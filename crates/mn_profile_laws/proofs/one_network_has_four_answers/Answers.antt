use Rattle.mn_profile_laws.proofs.Cases.{four}
use Rattle.mn_profile_laws.proofs.one_network_has_four_answers.Goals as goal

pub returns : goal.returns
returns c = four
