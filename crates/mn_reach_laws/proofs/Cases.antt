-- Each verdict is computed.
use Rattle.std.proofs.Common.{refl}
use Rattle.mn_ledger.proofs.Running.{a_run}
use Rattle.mn_settled_laws.proofs.Witness.{they_carry_a_packet}
use Rattle.mn_reach_laws.specs.TwoLinks.{TwoLinksHaveTheirVerdicts, TwoLinksRest}

pub cases : TwoLinksHaveTheirVerdicts
unfolding a_run
cases = record { arrives = refl; no_label = refl; cut = refl; no_route = refl; site_down = refl }

pub rest : TwoLinksRest
unfolding a_run
rest = record {
  lawful = they_carry_a_packet.lawful;
  journal = they_carry_a_packet.journal;
  resting = record {
    learned = they_carry_a_packet.steady.settled.learned;
    heard = they_carry_a_packet.steady.settled.heard;
    told = λ one other d e f live. they_carry_a_packet.steady.settled.told one other d e f;
  };
  moving = they_carry_a_packet.steady.moving;
  landed = they_carry_a_packet.landed;
  says = refl;
}
