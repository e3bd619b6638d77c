use Rattle.std.proofs.Common.{arith}
use Rattle.mn_flight_pool.proofs.Grown.{grown_held, grown_items, grown_counted, grown_by_due, grown_recent, grown_finger, grown_latest}
use Rattle.mn_flight_pool.proofs.Put.{ticks_count}
use Rattle.mn_flight_pool.proofs.pool.Pool.grow.Goals as goal

pub overflow_sub-ticks : goal.overflow_sub-ticks
overflow_sub-ticks g c = omega (arith, ticks_count c.args.self.now c.requires, c.args.self.now.ticks.ok.0, c.len.ensures)

pub push-requires-clause-few : goal.push-requires-clause-few
push-requires-clause-few g c = omega (arith, c.requires.few)

pub returns-clause-whole : goal.returns-clause-whole
returns-clause-whole g c =
    let added = (c.in_ok-node.ensures).ok in
    let fresh = (c.in_ok-node.ensures).fresh in
    let own = (c.in_ok-node.ensures).room in
    let node = c.in_ok-node.node in
    record {
      held = grown_held c.args.self.now c.requires node c.add.new.self added fresh own c.push.new.store c.push.ensures.store c.push.new.self
          c.push.ensures.first
          c.push.ensures.count;
      counted = grown_counted c.args.self.now c.requires node c.add.new.self added fresh own c.push.new.store c.push.ensures.store;
      by_due = rw c.make_room.ensures.items (grown_by_due c.args.self.now c.requires node c.add.new.self added fresh own c.push.new.store c.push.ensures.store);
      few = omega (arith, c.push.ensures.count, c.if-nodes.false);
      ticks_room = omega (
        arith,
        c.push.ensures.count,
        c.in_ok-make_room.ensures.room,
        c.make_room.ensures.len,
        c.len.ensures,
        ticks_count c.args.self.now c.requires,
        c.args.self.now.ticks.ok.0,
      );
      finger = grown_finger c.args.self.now c.requires node c.add.new.self added fresh own c.push.new.store c.push.ensures.store;
      recent = rw c.make_room-2.ensures.items
          (grown_recent c.args.self.now c.requires node c.add.new.self added fresh own c.push.new.store c.push.ensures.store);
      recent_room = omega (arith, c.push.ensures.count, c.in_ok-make_room-2.ensures.room, c.make_room-2.ensures.len, c.len-2.ensures);
      latest = grown_latest c.args.self.now c.requires node c.add.new.self added fresh own c.push.new.store c.push.ensures.store;
    }

pub returns-clause-items : goal.returns-clause-items
returns-clause-items g c =
    grown_items c.args.self.now c.requires c.in_ok-node.node c.add.new.self (c.in_ok-node.ensures).ok (c.in_ok-node.ensures).fresh (c.in_ok-node.ensures).room
    c.push.new.store c.push.ensures.store
