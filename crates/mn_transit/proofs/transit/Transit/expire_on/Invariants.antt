use Rattle.std.proofs.Common.{◌≡◌, length, filter}
use Rattle.mn_wiring.specs.Wiring.{sender}
use Rattle.mn_topo.specs.Network.{wiring_of}
use Rattle.mn_ledger.specs.Packets.{Packets, channel}
use Rattle.mn_frame_laws.specs.Given.{Labelling}
use Rattle.mn_timetable_laws.specs.Keys.{keys_in, FlyInOrder}
use Rattle.mn_transit.specs.Moving.{CountsOn}
use Rattle.mn_transit.specs.Stands.{StandsFor}
use Rattle.mn_transit.specs.Aging.{DueAsSent, limit_on}
use Rattle.mn_transit.proofs.Aging.{AgesTo, stays_on}
use Rattle.mn_transit.proofs.transit.Transit.expire_on.Given as goal

abbrev pub invariant-frames : goal.invariant-frames
invariant-frames l = record {
  at : l.at ≡ channel l.fn.link.0 l.fn.dir;
  node : l.from.0 ≡ sender (wiring_of l.topology) l.fn.link.0 l.fn.dir;
  limit : l.limit ≡ limit_on l.topology l.fn.clock l.fn.link.0;
  topology : l.topology ≡ l.fn.topology;
  ages : (given : Labelling) (packets : Packets) → StandsFor l.fn.topology given l.fn.self packets → DueAsSent l.fn.topology l.fn.self.flying packets →
      AgesTo l.fn.topology given l.fn.clock l.self packets l.fn.link.0 l.fn.dir;
  left : filter (stays_on l.fn.topology l.fn.clock (channel l.fn.link.0 l.fn.dir)) l.self.flying
      ≡ filter (stays_on l.fn.topology l.fn.clock (channel l.fn.link.0 l.fn.dir)) l.fn.self.flying;
  order : FlyInOrder (keys_in l.self.flying);
  counts : CountsOn l.fn.self l.self 0 0 0;
}

abbrev pub decreases-frames : goal.decreases-frames
decreases-frames l = length l.self.flying
