use Rattle.std.proofs.Common.{◌≡◌, ◌<◌, ◌-◌, arith, refl, ap, sym, ◌∙◌, get_or}
use Rattle.std.specs.Prelude.{slice_set}
use Rattle.mn_flight.specs.declared.Item.{Item}
use Rattle.mn_flight_pool.specs.Rings.{item_at, next_of, prev_of}
use Rattle.mn_flight_pool.specs.ByDue.{ticks_left}
use Rattle.mn_flight_pool.specs.declared.node.Place.{Place}
use Rattle.mn_flight_pool.specs.declared.node.Pair.TheVariants.{Due}
use Rattle.mn_flight_pool.proofs.Put.{count_read}
use Rattle.mn_flight_pool.proofs.Take.{some_count, next_there, prev_there, no_item, same_item, below, some_on, channel_ring, room_one, room_two, item_one}
use Rattle.mn_flight_pool.proofs.Take.{take_held, take_items, take_counted, take_by_due, take_before, take_latest}
use Rattle.mn_flight_pool.proofs.Whole.{node_holds, items_count, none_last}
use Rattle.mn_flight_pool.proofs.pool.Pool.take.Goals as goal

pub returns-in_err-due : goal.returns-in_err-due
returns-in_err-due g c =
    absurd (no_item c.args.self.now c.requires.whole c.args.node.index c.requires.node
    (item_at c.args.self.now.store c.args.node.index) c.in_err-due.ensures.value
    (node_holds c.args.self.now c.requires.whole c.args.node.index c.requires.node))

pub unlink_due-requires-clause-next : goal.unlink_due-requires-clause-next
unlink_due-requires-clause-next g c = next_there c.args.self.now c.requires.whole c.args.node.index c.requires.node

pub unlink_due-requires-clause-prev : goal.unlink_due-requires-clause-prev
unlink_due-requires-clause-prev g c = prev_there c.args.self.now c.requires.whole c.args.node.index c.requires.node

pub leave-requires-clause-room : goal.leave-requires-clause-room
leave-requires-clause-room g c =
    room_one c.args.self.now c.requires.whole c.args.node.index c.requires.node c.unlink_due.new.store c.unlink_due.ensures.store

pub leave-requires-clause-channel : goal.leave-requires-clause-channel
leave-requires-clause-channel g c =
    channel_ring c.args.self.now c.requires.whole c.args.node.index c.requires.node c.in_ok-due.field-0.now
    (sym c.in_ok-due.ensures.value) c.unlink_due.new.store c.unlink_due.ensures.store

pub returns-in_err-item : goal.returns-in_err-item
returns-in_err-item g c =
    absurd (no_item c.args.self.now c.requires.whole c.args.node.index c.requires.node
    (item_at c.unlink_due.new.store c.args.node.index) c.in_err-item.ensures.value
    (rw (item_one c.args.self.now c.requires.whole c.args.node.index c.requires.node c.in_ok-due.field-0.now
    (sym c.in_ok-due.ensures.value) c.unlink_due.new.store c.unlink_due.ensures.store) refl))

pub index_mut-requires : goal.index_mut-requires
index_mut-requires g c =
    let same =
    same_item c.args.self.now c.requires.whole c.args.node.index c.requires.node c.unlink_due.new.store c.unlink_due.ensures.store c.in_ok-due.field-0.now
    c.in_ok-item.item c.in_ok-due.ensures.value c.in_ok-item.ensures.value in
    let within : c.in_ok-item.item.channel < c.args.self.now.channels =
    below c.args.self.now c.requires.whole c.args.node.index c.requires.node c.in_ok-item.item same.0 in
    omega (arith, within, c.args.self.now.counts.ok.0, c.requires.whole.counted.many)

pub overflow_sub-index_mut : goal.overflow_sub-index_mut
overflow_sub-index_mut g c =
    let same =
    same_item c.args.self.now c.requires.whole c.args.node.index c.requires.node c.unlink_due.new.store c.unlink_due.ensures.store c.in_ok-due.field-0.now
    c.in_ok-item.item c.in_ok-due.ensures.value c.in_ok-item.ensures.value in
    let within : c.in_ok-item.item.channel < c.args.self.now.channels =
    below c.args.self.now c.requires.whole c.args.node.index c.requires.node c.in_ok-item.item same.0 in
    let read : c.index_mut.result.now ≡ get_or c.args.self.now.counts.items c.in_ok-item.item.channel 0 =
    count_read c.args.self.now c.requires.whole c.in_ok-item.item.channel c.index_mut.result.now within c.index_mut.ensures.value in
    let some : 0 < get_or c.args.self.now.counts.items c.in_ok-item.item.channel 0 =
    some_on c.args.self.now c.requires.whole c.args.node.index c.requires.node c.in_ok-item.item same.0 in
    omega (arith, read, some)

pub push-requires-clause-room : goal.push-requires-clause-room
push-requires-clause-room g c =
    room_two c.args.self.now c.requires.whole c.args.node.index c.requires.node c.unlink_due.new.store c.unlink_due.ensures.store
    c.leave.new.store c.leave.ensures.left

pub push-requires-clause-few : goal.push-requires-clause-few
push-requires-clause-few g c = omega (arith, c.requires.whole.few)

pub returns-clause-whole : goal.returns-clause-whole
returns-clause-whole g c =
    let same =
    same_item c.args.self.now c.requires.whole c.args.node.index c.requires.node c.unlink_due.new.store c.unlink_due.ensures.store c.in_ok-due.field-0.now
    c.in_ok-item.item c.in_ok-due.ensures.value c.in_ok-item.ensures.value in
    let within : c.in_ok-item.item.channel < c.args.self.now.channels =
    below c.args.self.now c.requires.whole c.args.node.index c.requires.node c.in_ok-item.item same.0 in
    record {
      held =
          take_held c.args.self.now c.requires.whole c.args.node.index c.requires.node c.in_ok-item.item same.0 c.unlink_due.new.store
          c.unlink_due.ensures.store c.leave.new.store c.leave.ensures.left
          c.push.new.store c.push.ensures.store c.push.new.self (ap (λ (q : Place). q.index) c.push.ensures.first) c.push.ensures.count;
      counted =
          take_counted c.args.self.now c.requires.whole c.args.node.index c.requires.node c.in_ok-item.item same.0 c.unlink_due.new.store
          c.unlink_due.ensures.store c.leave.new.store c.leave.ensures.left c.push.new.store c.push.ensures.store
          (slice_set c.args.self.now.counts.items c.in_ok-item.item.channel (c.index_mut.result.now - 1))
          (ap (λ m. slice_set c.args.self.now.counts.items c.in_ok-item.item.channel (m - 1))
          (count_read c.args.self.now c.requires.whole c.in_ok-item.item.channel c.index_mut.result.now within c.index_mut.ensures.value));
      by_due =
          take_by_due c.args.self.now c.requires.whole c.args.node.index c.requires.node c.in_ok-item.item same.0 c.unlink_due.new.store
          c.unlink_due.ensures.store c.leave.new.store c.leave.ensures.left c.push.new.store c.push.ensures.store
          c.unlink_due.new.ticks.items
          (c.unlink_due.ensures.ticks
          ∙ ap (λ (z : Item g.row.T.Denot). ticks_left z.due (prev_of Due c.args.self.now.store c.args.node.index)
          (item_at c.args.self.now.store (prev_of Due c.args.self.now.store c.args.node.index))
          (item_at c.args.self.now.store (next_of Due c.args.self.now.store c.args.node.index)) c.args.self.now.ticks.items) same.1);
      few = omega (
        arith,
        c.requires.whole.few,
        c.push.ensures.count,
        some_count c.args.self.now c.requires.whole c.args.node.index
            c.requires.node,
      );
      ticks_room =
          omega (
            arith,
            c.requires.whole.ticks_room,
            c.push.ensures.count,
            c.unlink_due.ensures.capacity,
            some_count c.args.self.now c.requires.whole
                c.args.node.index c.requires.node,
          );
      finger = tt;
      recent = none_last _ c.clear.new.self.items c.clear.ensures.items;
      recent_room =
          omega (
            arith,
            c.requires.whole.recent_room,
            c.push.ensures.count,
            c.clear.ensures.capacity,
            some_count c.args.self.now c.requires.whole
                c.args.node.index c.requires.node,
          );
      latest =
          take_latest c.args.self.now c.requires.whole c.args.node.index c.requires.node c.in_ok-item.item same.0 c.unlink_due.new.store
          c.unlink_due.ensures.store c.leave.new.store c.leave.ensures.left c.push.new.store c.push.ensures.store;
    }

pub returns-clause-value : goal.returns-clause-value
returns-clause-value g c =
    let same =
    same_item c.args.self.now c.requires.whole c.args.node.index c.requires.node c.unlink_due.new.store c.unlink_due.ensures.store c.in_ok-due.field-0.now
    c.in_ok-item.item c.in_ok-due.ensures.value c.in_ok-item.ensures.value in
    sym same.0

pub returns-clause-items : goal.returns-clause-items
returns-clause-items g c =
    let same =
    same_item c.args.self.now c.requires.whole c.args.node.index c.requires.node c.unlink_due.new.store c.unlink_due.ensures.store c.in_ok-due.field-0.now
    c.in_ok-item.item c.in_ok-due.ensures.value c.in_ok-item.ensures.value in
    take_items c.args.self.now c.requires.whole c.args.node.index c.requires.node c.in_ok-item.item same.0 c.unlink_due.new.store c.unlink_due.ensures.store
    c.leave.new.store c.leave.ensures.left c.push.new.store c.push.ensures.store

pub returns-clause-length : goal.returns-clause-length
returns-clause-length g c =
    omega (
      arith,
      items_count _ (returns-clause-whole g c),
      items_count c.args.self.now c.requires.whole,
      some_count c.args.self.now c.requires.whole
          c.args.node.index c.requires.node,
    )

pub returns-clause-before : goal.returns-clause-before
returns-clause-before g c =
    let same =
    same_item c.args.self.now c.requires.whole c.args.node.index c.requires.node c.unlink_due.new.store c.unlink_due.ensures.store c.in_ok-due.field-0.now
    c.in_ok-item.item c.in_ok-due.ensures.value c.in_ok-item.ensures.value in
    take_before c.args.self.now c.requires.whole c.args.node.index c.requires.node c.in_ok-item.item same.0 c.unlink_due.new.store
    c.unlink_due.ensures.store c.leave.new.store c.leave.ensures.left c.push.new.store c.push.ensures.store
