use Rattle.mn_profile_laws.proofs.Cases.{again}
use Rattle.mn_profile_laws.proofs.a_packet_is_looked_up_again.Goals as goal

pub returns : goal.returns
returns c = again
