use Rattle.mn_join_laws.proofs.Arriving.{all_have_legs}
use Rattle.mn_join_laws.proofs.each_packet_has_its_legs.Goals as goal

pub returns : goal.returns
returns c = all_have_legs
