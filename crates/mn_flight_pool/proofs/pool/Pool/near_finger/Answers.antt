use Rattle.std.proofs.Common.{arith}
use Rattle.mn_flight_pool.proofs.Pointing.{from_finger, back_by, forth_by}
use Rattle.mn_flight_pool.proofs.pool.Pool.near_finger.Goals as goal

pub back-requires : goal.back-requires
back-requires g c = from_finger c.args.self.now c.requires.whole c.args.channel c.requires.channel c.in_ok-finger.finger c.in_ok-finger.was
    (omega (arith, c.if-finger-channel.false)) c.args.place c.requires.place

pub forth-requires : goal.forth-requires
forth-requires g c = from_finger c.args.self.now c.requires.whole c.args.channel c.requires.channel c.in_ok-finger.finger c.in_ok-finger.was
    (omega (arith, c.if-finger-channel.false)) c.args.place c.requires.place

pub returns-then-place-finger-clause-placed : goal.returns-then-place-finger-clause-placed
returns-then-place-finger-clause-placed g c =
    back_by c.args.self.now c.requires.whole c.args.channel c.requires.channel c.in_ok-finger.finger c.in_ok-finger.was
    (omega (arith, c.if-finger-channel.false)) c.args.place c.requires.place c.back.result.index c.if-place-finger.true c.back.ensures.node

pub returns-else-place-finger-clause-placed : goal.returns-else-place-finger-clause-placed
returns-else-place-finger-clause-placed g c =
    forth_by c.args.self.now c.requires.whole c.args.channel c.requires.channel c.in_ok-finger.finger c.in_ok-finger.was
    (omega (arith, c.if-finger-channel.false)) c.args.place c.requires.place c.forth.result.index (omega (arith, c.if-place-finger.false)) c.forth.ensures.node
