-- The network of two links meets what the laws of settled worlds and of arrival ask, and a packet goes there.
use Rattle.std.proofs.Common.{ℕ, zero, suc, ◌≡◌, [], ◌∷◌, ◌++◌, refl, arith}
use Rattle.mn_wiring.specs.declared.links.Dir.{Dir}
use Rattle.mn_ledger.specs.Ledger.{packets_of}
use Rattle.mn_ledger.specs.Verdicts.{injections, verdict_on}
use Rattle.mn_ledger.specs.declared.verdict.Verdict.TheVariants.{Flying}
use Rattle.mn_ledger.proofs.OnePlace.{in_one_place}
use Rattle.mn_ledger.proofs.TwoLinks.{two_links, settling, packet, the_world_is_settled, the_topology_is_lawful, the_run_is_lawful}
use Rattle.mn_settled_laws.specs.TwoLinks.{injection, carrying, TwoLinksCarryAPacket}
use Rattle.mn_settled_laws.proofs.Arrival.{nothing-flies, lawful_begins}
use Rattle.mn_ledger.proofs.Running.{a_run}

no_flight : (j l : ℕ) (d : Dir) → verdict_on (packets_of two_links (settling ++ injection ∷ carrying) (packet ∷ [])) j ≡ Flying (record { 0 = l }) d → ⊥
unfolding a_run
no_flight zero l d e = cc
no_flight (suc j) l d e = cc

-- the packet is delivered, and no other was sent
landed : (at : ℕ) → (packets_of two_links (settling ++ injection ∷ carrying) (packet ∷ [])).flying at ≡ []
landed =
    nothing-flies (packets_of two_links (settling ++ injection ∷ carrying) (packet ∷ [])) (injections (settling ++ injection ∷ carrying))
    (in_one_place two_links (settling ++ injection ∷ carrying) (packet ∷ [])) no_flight

pub they_carry_a_packet : TwoLinksCarryAPacket
unfolding a_run
they_carry_a_packet = record {
  lawful = the_topology_is_lawful;
  journal = lawful_begins two_links settling (injection ∷ carrying) (packet ∷ []) the_run_is_lawful;
  steady = record { settled = the_world_is_settled; moving = refl };
  addressed = record { passes = refl; best_is = refl };
  reached = (0 ∷ 1 ∷ [], refl);
  lives = omega arith;
  landed = landed;
  route_is = refl;
}
