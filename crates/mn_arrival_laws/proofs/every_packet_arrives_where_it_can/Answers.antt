use Rattle.mn_arrival_laws.proofs.Resolving.{arrives_where_it_can}
use Rattle.mn_arrival_laws.proofs.every_packet_arrives_where_it_can.Goals as goal

pub returns : goal.returns
returns c = arrives_where_it_can
