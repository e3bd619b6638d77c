use Rattle.std.proofs.Common.{◌<◌, length, arith, ap, Some}
use Rattle.mn_flight.specs.declared.Item.{Item}
use Rattle.mn_transit.specs.declared.flown.Flown.{Flown}
use Rattle.mn_transit.proofs.Bytes.{bytes_left}
use Rattle.mn_transit.proofs.Once.{apart_left, once_left, HasWay}
use Rattle.mn_transit.proofs.Taking.{holds_taken, holds_left, room_left}
use Rattle.mn_transit.proofs.transit.Transit.take.Goals as goal

pub overflow_sub-self : goal.overflow_sub-self
overflow_sub-self c =
    let less = bytes_left c.args.at c.args.place c.self.inside.frames.items c.in-Some.taken c.self.invariant.flight.ascending c.in-Some.ensures.value in
    omega (arith, less, c.self.invariant.bytes, ap length c.packet.ensures.packet)

pub invariant_of-self-2 : goal.invariant_of-self-2
invariant_of-self-2 c = record {
  flight = c.take.ensures.flight;
  entries =
      rw c.in-Some.ensures.items (holds_left (λ (item : Item Flown). 0 < length item.item.frame.entries) _ (Some c.in-Some.taken) c.self.invariant.entries);
  injected =
      rw c.in-Some.ensures.items
      (holds_left (λ (item : Item Flown). item.item.packet < length c.self.inside.verdicts.items) _ (Some c.in-Some.taken) c.self.invariant.injected);
  once = rw c.in-Some.ensures.items (once_left _ (Some c.in-Some.taken) c.self.invariant.once);
  room = rw c.in-Some.ensures.items (holds_left (HasWay c.self.inside.paths) _ (Some c.in-Some.taken) c.self.invariant.room);
  paths = c.self.invariant.paths;
  bytes =
      let less = bytes_left c.args.at c.args.place c.self.inside.frames.items c.in-Some.taken c.self.invariant.flight.ascending c.in-Some.ensures.value in
      rw c.in-Some.ensures.items (omega (arith, less, c.self.invariant.bytes, ap length c.packet.ensures.packet));
}

pub returns-clause-room : goal.returns-clause-room
returns-clause-room c =
    room_left _ _ _ _ _ (Some c.in-Some.taken) _ _ c.self.invariant.flight c.in-Some.ensures.value c.in-Some.ensures.items c.take.ensures.spare

pub returns-clause-injected : goal.returns-clause-injected
returns-clause-injected c =
    holds_taken (λ (item : Item Flown). item.item.packet < length c.self.inside.verdicts.items) _ _ _
    (Some c.in-Some.taken) c.in-Some.ensures.value c.self.invariant.injected

pub returns-clause-entry : goal.returns-clause-entry
returns-clause-entry c =
    holds_taken (λ (item : Item Flown). 0 < length item.item.frame.entries) _ _ _ (Some c.in-Some.taken) c.in-Some.ensures.value c.self.invariant.entries

pub returns-clause-apart : goal.returns-clause-apart
returns-clause-apart c = rw c.in-Some.ensures.items (apart_left _ _ _ c.in-Some.taken c.self.invariant.once c.in-Some.ensures.value)

pub returns-clause-hops : goal.returns-clause-hops
returns-clause-hops c = holds_taken (HasWay c.self.inside.paths) _ _ _ (Some c.in-Some.taken) c.in-Some.ensures.value c.self.invariant.room
