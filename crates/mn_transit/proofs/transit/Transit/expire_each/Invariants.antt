use Rattle.std.proofs.Common.{◌≡◌, ◌≤◌, filter, length}
use Rattle.mn_ledger.specs.Packets.{Packets}
use Rattle.mn_frame_laws.specs.Given.{Labelling}
use Rattle.mn_timetable_laws.specs.Keys.{keys_in, FlyInOrder}
use Rattle.mn_transit.specs.Moving.{CountsOn}
use Rattle.mn_transit.specs.Stands.{StandsFor}
use Rattle.mn_transit.specs.Aging.{DueAsSent}
use Rattle.mn_transit.proofs.Aging.{AgesFrom, stays_below}
use Rattle.mn_transit.proofs.transit.Transit.expire_each.Given as goal

abbrev pub invariant-directions : goal.invariant-directions
invariant-directions l = record {
  topology : l.topology ≡ l.fn.topology;
  ages : (given : Labelling) (packets : Packets) → StandsFor l.fn.topology given l.fn.self packets → DueAsSent l.fn.topology l.fn.self.flying packets →
      AgesFrom l.fn.topology given l.fn.clock l.self packets l.number;
  left : l.self.flying ≡ filter (stays_below l.fn.topology l.fn.clock l.number) l.fn.self.flying;
  order : FlyInOrder (keys_in l.self.flying);
  few : l.number ≤ length l.topology.links;
  counts : CountsOn l.fn.self l.self 0 0 0;
}
