use Rattle.mn_profile_laws.proofs.Labelled.{labelled_arrive}
use Rattle.mn_profile_laws.proofs.labelled_next_hops_lead_there.Goals as goal

pub returns : goal.returns
returns c = labelled_arrive
