use Rattle.std.proofs.Common.{arith}
use Rattle.mn_net.proofs.Few.{made_fits, room_for}
use Rattle.mn_net.proofs.net.Net.reserve.Goals as goal

pub returns-clause-room : goal.returns-clause-room
returns-clause-room c =
    let works = c.if-self.false in
    room_for _ c.args.more c.reserve-2.result works (omega (arith, c.in_ok-reserve.ensures.ok))
    (made_fits _ c.laws.ensures (c.self.invariant works)) c.ranges.more.fits c.reserve-2.ensures.room
