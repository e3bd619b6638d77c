use Rattle.std.proofs.Common.{◌<◌, arith}
use Rattle.mn_flight_pool.proofs.Whole.{first_due, later_due, first_holds}
use Rattle.mn_flight_pool.proofs.pool.Pool.first_due.Goals as goal

pub returns-in_err-item : goal.returns-in_err-item
returns-in_err-item g c =
    let some : 0 < c.args.self.now.count = omega (arith, c.if-self-eq0.false) in
    absurd (first_holds c.args.self.now c.requires some c.args.limit c.next-node.result.index c.next-node.ensures c.in_err-item.ensures)

pub returns-then-item-limit : goal.returns-then-item-limit
returns-then-item-limit g c =
    let some : 0 < c.args.self.now.count = omega (arith, c.if-self-eq0.false) in
    first_due c.args.self.now c.requires some c.args.limit c.next-node.result.index c.next-node.ensures c.in_ok-item.item.now c.in_ok-item.ensures
    c.if-item-limit.true

pub returns-else-item-limit : goal.returns-else-item-limit
returns-else-item-limit g c =
    let some : 0 < c.args.self.now.count = omega (arith, c.if-self-eq0.false) in
    later_due c.args.self.now c.requires some c.args.limit c.next-node.result.index c.next-node.ensures c.in_ok-item.item.now c.in_ok-item.ensures
    c.if-item-limit.false
