use Rattle.mn_profile_laws.proofs.Run.{one_way}
use Rattle.mn_profile_laws.proofs.one_next_hop_makes_one_way.Goals as goal

pub returns : goal.returns
returns c = one_way
