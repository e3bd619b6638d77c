use Rattle.mn_changing_laws.proofs.Paths.{no_node_is_met_twice}
use Rattle.mn_changing_laws.proofs.without_a_loop_no_packet_meets_a_node_twice.Goals as goal

pub returns : goal.returns
returns c = no_node_is_met_twice
