use Rattle.mn_arrival_laws.proofs.Arriving.{it_arrives}
use Rattle.mn_arrival_laws.proofs.every_packet_of_a_steady_stretch_arrives.Goals as goal

pub returns : goal.returns
returns c = it_arrives
