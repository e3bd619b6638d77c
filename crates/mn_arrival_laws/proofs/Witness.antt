-- The network of two links meets what the law of arrival asks.
use Rattle.std.proofs.Common.{refl, arith}
use Rattle.mn_settled_laws.proofs.Witness.{they_carry_a_packet}
use Rattle.mn_ledger.proofs.TwoLinks.{the_run_is_lawful, the_topology_is_lawful}
use Rattle.mn_arrival_laws.specs.TwoLinks.{TwoLinksHaveAnArrival}

pub two_links_have_one : TwoLinksHaveAnArrival
two_links_have_one = record {
  lawful = the_topology_is_lawful;
  journal = the_run_is_lawful;
  sent = record {
    sent = record { entry = _; number = 1; there = refl; injects = refl; earlier = refl; content = refl };
    since = omega arith;
    until = omega arith;
    steady = they_carry_a_packet.steady;
    landed = they_carry_a_packet.landed;
  };
  way = record { addressed = they_carry_a_packet.addressed; reached = they_carry_a_packet.reached; lives = they_carry_a_packet.lives };
}
