use Rattle.std.proofs.Common.{◌≡◌, length}
use Rattle.mn_wiring.specs.Wiring.{sender}
use Rattle.mn_flight.specs.Flying.{off_channel}
use Rattle.mn_topo.specs.Network.{wiring_of}
use Rattle.mn_ledger.specs.Packets.{Packets, channel}
use Rattle.mn_frame_laws.specs.Given.{Labelling}
use Rattle.mn_transit.specs.Moving.{CountsOn}
use Rattle.mn_transit.specs.Stands.{StandsFor}
use Rattle.mn_transit.proofs.Going.{CutsTo}
use Rattle.mn_transit.proofs.transit.Transit.cut.Given as goal

abbrev pub invariant-frames : goal.invariant-frames
invariant-frames l = record {
  at : l.at ≡ channel l.fn.link.0 l.fn.dir;
  node : l.from.0 ≡ sender (wiring_of l.topology) l.fn.link.0 l.fn.dir;
  topology : l.topology ≡ l.fn.topology;
  cuts : (given : Labelling) (packets : Packets) → StandsFor l.fn.topology given l.fn.self packets →
      CutsTo l.fn.topology given l.self packets l.fn.link.0 l.fn.dir;
  left : off_channel l.at l.self.flying ≡ off_channel l.at l.fn.self.flying;
  counts : CountsOn l.fn.self l.self 0 0 0;
}

abbrev pub decreases-frames : goal.decreases-frames
decreases-frames l = length l.self.flying
