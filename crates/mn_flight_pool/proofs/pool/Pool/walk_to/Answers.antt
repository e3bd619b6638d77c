use Rattle.std.proofs.Common.{◌<◌, ◌+◌, ◌-◌, length, refl, arith, ap, ◌∙◌, subst}
use Rattle.mn_flight.specs.Flying.{on_channel}
use Rattle.mn_flight_pool.specs.Rings.{next_of, prev_of}
use Rattle.mn_flight_pool.specs.Pool.{steps_of}
use Rattle.mn_flight_pool.specs.Whole.{items_of, IsPlaced}
use Rattle.mn_flight_pool.specs.declared.node.Pair.TheVariants.{Channel}
use Rattle.mn_flight_pool.proofs.Whole.{placed, in_its_ring, forth_placed, back_placed, past_end, has_channel}
use Rattle.mn_flight_pool.proofs.pool.Pool.walk_to.Goals as goal

pub returns-then-place-count-clause-node : goal.returns-then-place-count-clause-node
returns-then-place-count-clause-node g c =
    past_end c.args.self.now c.requires c.args.channel c.args.place (omega (arith, c.if-place-count.true, c.from-place.ensures, c.count_on-count.ensures))

pub near_finger-requires-clause-channel : goal.near_finger-requires-clause-channel
near_finger-requires-clause-channel g c =
    has_channel c.args.self.now c.requires c.args.channel c.args.place
    (omega (arith, c.if-place-count.false, c.from-place.ensures, c.count_on-count.ensures))

pub forth-requires : goal.forth-requires
forth-requires g c =
    in_its_ring c.args.self.now c.requires c.args.channel c.args.place (omega (arith, c.if-place-count.false, c.from-place.ensures, c.count_on-count.ensures))

pub returns-then-place-count-2-clause-node : goal.returns-then-place-count-2-clause-node
returns-then-place-count-2-clause-node g c =
    let there : c.args.place < length (on_channel c.args.channel (items_of c.args.self.now)) =
    omega (arith, c.if-place-count.false, c.from-place.ensures, c.count_on-count.ensures) in
    let below = has_channel c.args.self.now c.requires c.args.channel c.args.place there in
    forth_placed c.args.self.now c.requires c.args.channel (record { index = c.args.channel }) below refl c.args.place c.forth.result.index
    (c.forth.ensures.node ∙ ap (λ n. steps_of (next_of Channel c.args.self.now.store) c.args.channel (n + 1)) c.from-place.ensures) there

pub back-requires : goal.back-requires
back-requires g c =
    in_its_ring c.args.self.now c.requires c.args.channel c.args.place (omega (arith, c.if-place-count.false, c.from-place.ensures, c.count_on-count.ensures))

pub returns-clause-node : goal.returns-clause-node
returns-clause-node g c =
    let in_count : c.args.place < c.count_on-count.result = omega (arith, c.if-place-count.false, c.from-place.ensures) in
    let there : c.args.place < length (on_channel c.args.channel (items_of c.args.self.now)) = omega (arith, in_count, c.count_on-count.ensures) in
    let below = has_channel c.args.self.now c.requires c.args.channel c.args.place there in
    back_placed c.args.self.now c.requires c.args.channel (record { index = c.args.channel }) below refl c.args.place c.count_on-count.result
    c.back.result.index
    (c.back.ensures.node
    ∙ ap (λ n. steps_of (prev_of Channel c.args.self.now.store) c.args.channel (c.count_on-count.result - n)) c.from-place.ensures)
    c.count_on-count.ensures in_count

pub returns-in-Some-clause-node : goal.returns-in-Some-clause-node
returns-in-Some-clause-node g c =
    placed c.args.self.now c.requires c.args.channel c.args.place c.in-Some.node.index
    (subst (λ k. IsPlaced c.args.self.now c.args.channel k c.in-Some.node.index) c.from-place.ensures c.in-Some.ensures.placed)
