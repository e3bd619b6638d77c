use Rattle.mn_profile_laws.proofs.Arriving.{all_lead_there}
use Rattle.mn_profile_laws.proofs.all_lead_where_ldp_is_on.Goals as goal

pub returns : goal.returns
returns c = all_lead_there
