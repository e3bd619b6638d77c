use Rattle.mn_wiring.specs.Wiring.{Wiring}
use Rattle.mn_lsr.proofs.Joining.{AreNoted}
use Rattle.mn_lsr.proofs.links.links_by_neighbour.Given as goal

abbrev pub invariant-loop-at : goal.invariant-loop-at
invariant-loop-at l = let w : Wiring = record { loopbacks = l.loopbacks; ends = l.ends } in AreNoted w l.me.0 l.at l.links.items
