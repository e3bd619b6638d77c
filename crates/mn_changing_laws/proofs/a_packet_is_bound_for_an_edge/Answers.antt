use Rattle.mn_changing_laws.proofs.Bound.{bound_for_an_edge}
use Rattle.mn_changing_laws.proofs.a_packet_is_bound_for_an_edge.Goals as goal

pub returns : goal.returns
returns c = bound_for_an_edge
