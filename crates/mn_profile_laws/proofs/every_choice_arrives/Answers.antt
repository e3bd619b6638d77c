use Rattle.mn_profile_laws.proofs.Arriving.{every_arrives}
use Rattle.mn_profile_laws.proofs.every_choice_arrives.Goals as goal

pub returns : goal.returns
returns c = every_arrives
