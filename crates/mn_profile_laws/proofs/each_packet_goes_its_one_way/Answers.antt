use Rattle.mn_profile_laws.proofs.Run.{in_journals}
use Rattle.mn_profile_laws.proofs.each_packet_goes_its_one_way.Goals as goal

pub returns : goal.returns
returns c = in_journals
