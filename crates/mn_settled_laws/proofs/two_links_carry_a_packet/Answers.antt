use Rattle.mn_settled_laws.proofs.Witness.{they_carry_a_packet}
use Rattle.mn_settled_laws.proofs.two_links_carry_a_packet.Goals as goal

pub returns : goal.returns
returns c = they_carry_a_packet
