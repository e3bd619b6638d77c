use Rattle.std.proofs.Common.{◌<◌, ◌≤◌, ◌+◌, refl, arith, ap, get_or}
use Rattle.std.specs.Prelude.{slice_set}
use Rattle.mn_flight_pool.proofs.Put.{ticks_count, count_within, count_read, free_room, first_ring, node_in_one, last_in_one, next_in_one, put_held}
use Rattle.mn_flight_pool.proofs.Put.{put_items, put_counted, put_by_due, put_recent, put_finger, put_latest}
use Rattle.mn_flight_pool.proofs.Whole.{recent_few}
use Rattle.mn_flight_pool.proofs.pool.Pool.put.Goals as goal

pub pop-node-requires-clause-room : goal.pop-node-requires-clause-room
pop-node-requires-clause-room g c = free_room c.args.self.now c.requires.whole c.args.self.now.free.first refl c.requires.room

pub enter-requires-clause-node : goal.enter-requires-clause-node
enter-requires-clause-node g c = free_room c.args.self.now c.requires.whole c.pop-node.result c.pop-node.ensures.node c.requires.room

pub enter-requires-clause-channel : goal.enter-requires-clause-channel
enter-requires-clause-channel g c =
    let below : c.args.item.channel < c.args.self.now.channels = c.requires.channel in
    first_ring c.args.self.now c.requires.whole c.pop-node.result c.pop-node.ensures.node c.requires.room c.args.item (record { index = c.args.item.channel })
    below refl

pub link_due-requires-clause-room : goal.link_due-requires-clause-room
link_due-requires-clause-room g c =
    omega (arith, ticks_count c.args.self.now c.requires.whole, c.args.self.now.ticks.ok.0, c.requires.whole.ticks_room, c.requires.room)

pub link_due-requires-clause-node : goal.link_due-requires-clause-node
link_due-requires-clause-node g c =
    let below : c.args.item.channel < c.args.self.now.channels = c.requires.channel in
    node_in_one c.args.self.now c.requires.whole c.pop-node.result c.pop-node.ensures.node c.requires.room c.args.item (record { index = c.args.item.channel })
    below refl c.requires.number c.enter.new.store c.enter.ensures

pub link_due-requires-clause-at : goal.link_due-requires-clause-at
link_due-requires-clause-at g c =
    let below : c.args.item.channel < c.args.self.now.channels = c.requires.channel in
    last_in_one c.args.self.now c.requires.whole c.pop-node.result c.pop-node.ensures.node c.requires.room c.args.item (record { index = c.args.item.channel })
    below refl c.requires.number c.enter.new.store c.enter.ensures

pub link_due-requires-clause-next : goal.link_due-requires-clause-next
link_due-requires-clause-next g c =
    let below : c.args.item.channel < c.args.self.now.channels = c.requires.channel in
    next_in_one c.args.self.now c.requires.whole c.pop-node.result c.pop-node.ensures.node c.requires.room c.args.item (record { index = c.args.item.channel })
    below refl c.requires.number c.enter.new.store c.enter.ensures

pub overflow_add-index_mut : goal.overflow_add-index_mut
overflow_add-index_mut g c =
    let below : c.args.item.channel < c.args.self.now.channels = c.requires.channel in
    let few : get_or c.args.self.now.counts.items c.args.item.channel 0 ≤ c.args.self.now.count =
    count_within c.args.self.now c.requires.whole c.args.item.channel below in
    let read = count_read c.args.self.now c.requires.whole c.args.item.channel c.index_mut.result.now below c.index_mut.ensures.value in
    omega (arith, few, read, c.requires.whole.few, c.requires.room)

pub keep-requires : goal.keep-requires
keep-requires g c =
    omega (
      arith,
      c.requires.whole.recent_room,
      c.requires.room,
      recent_few c.args.self.now c.requires.whole,
      c.args.self.now.recent.ok.0,
    )

pub returns-clause-whole : goal.returns-clause-whole
returns-clause-whole g c =
    let below : c.args.item.channel < c.args.self.now.channels = c.requires.channel in
    record {
      held = put_held c.args.self.now c.requires.whole c.pop-node.result c.pop-node.ensures.node c.requires.room c.args.item
          (record { index = c.args.item.channel })
          below refl c.requires.number c.enter.new.store c.enter.ensures c.link_due.new.store c.link_due.ensures.store
          c.pop-node.new.self c.pop-node.ensures.first c.pop-node.ensures.count;
      counted =
          put_counted c.args.self.now c.requires.whole c.pop-node.result c.pop-node.ensures.node c.requires.room c.args.item
          (record { index = c.args.item.channel })
          below refl c.requires.number c.enter.new.store c.enter.ensures c.link_due.new.store c.link_due.ensures.store
          (slice_set c.args.self.now.counts.items c.args.item.channel (c.index_mut.result.now + 1))
          (ap (λ n. slice_set c.args.self.now.counts.items c.args.item.channel (n + 1))
          (count_read c.args.self.now c.requires.whole c.args.item.channel c.index_mut.result.now below c.index_mut.ensures.value));
      by_due =
          put_by_due c.args.self.now c.requires.whole c.pop-node.result c.pop-node.ensures.node c.requires.room c.args.item
          (record { index = c.args.item.channel }) below
          refl c.requires.number c.enter.new.store c.enter.ensures c.link_due.new.store c.link_due.ensures.store
          c.link_due.new.ticks.items c.link_due.ensures.ticks;
      few = omega (arith, c.requires.whole.few, c.pop-node.ensures.count);
      ticks_room = omega (arith, c.requires.whole.ticks_room, c.pop-node.ensures.count, c.link_due.ensures.capacity);
      finger = put_finger c.args.self.now c.requires.whole c.pop-node.result c.pop-node.ensures.node c.requires.room c.args.item
          (record { index = c.args.item.channel })
          below refl c.requires.number c.enter.new.store c.enter.ensures c.link_due.new.store c.link_due.ensures.store;
      recent = put_recent c.args.self.now c.requires.whole c.pop-node.result c.pop-node.ensures.node c.requires.room c.args.item
          (record { index = c.args.item.channel })
          below refl c.requires.number c.enter.new.store c.enter.ensures c.link_due.new.store c.link_due.ensures.store
          c.keep.new.recent.items c.keep.ensures.last;
      recent_room = omega (arith, c.requires.whole.recent_room, c.pop-node.ensures.count, c.keep.ensures.capacity);
      latest = put_latest c.args.self.now c.requires.whole c.pop-node.result c.pop-node.ensures.node c.requires.room c.args.item
          (record { index = c.args.item.channel })
          below refl c.requires.number c.enter.new.store c.enter.ensures c.link_due.new.store c.link_due.ensures.store;
    }

pub returns-clause-items : goal.returns-clause-items
returns-clause-items g c =
    let below : c.args.item.channel < c.args.self.now.channels = c.requires.channel in
    put_items c.args.self.now c.requires.whole c.pop-node.result c.pop-node.ensures.node c.requires.room c.args.item (record { index = c.args.item.channel })
    below refl c.requires.number c.enter.new.store c.enter.ensures c.link_due.new.store c.link_due.ensures.store
