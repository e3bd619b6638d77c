use Rattle.std.proofs.Common.{◌≡◌, arith, subst}
use Rattle.mn_flight_pool.specs.Newest.{IsPassed}
use Rattle.mn_flight_pool.proofs.Newest.{none_greater, none_passed, next, at_there, next_there, next_holds, passes, found, all_others}
use Rattle.mn_flight_pool.proofs.pool.Pool.node_of.Goals as goal

pub returns-then-number-self : goal.returns-then-number-self
returns-then-number-self g c = none_greater c.args.self.now c.requires c.args.number c.if-number-self.true

pub loop-init : goal.loop-init
loop-init g c = none_passed c.args.self.now c.requires c.args.number

pub prev-node-requires : goal.prev-node-requires
prev-node-requires g c = at_there c.args.self.now c.requires c.args.number c.loop.counter c.loop.node.index c.loop.invariant c.loop-test.true

pub item-requires : goal.item-requires
item-requires g c =
    next_there c.args.self.now c.requires c.args.number c.loop.counter c.prev-node.result.index
    (next c.args.self.now c.requires c.args.number c.loop.counter c.loop.node.index c.prev-node.result.index c.loop.invariant c.loop-test.true
    c.prev-node.ensures)

pub returns-in_err-item : goal.returns-in_err-item
returns-in_err-item g c =
    absurd (next_holds c.args.self.now c.requires c.args.number c.loop.counter c.prev-node.result.index
    (next c.args.self.now c.requires c.args.number c.loop.counter c.loop.node.index c.prev-node.result.index c.loop.invariant c.loop-test.true
    c.prev-node.ensures) c.in_err-item.ensures)

pub returns-then-item-number : goal.returns-then-item-number
returns-then-item-number g c =
    found c.args.self.now c.requires c.args.number c.loop.counter c.prev-node.result.index
    (next c.args.self.now c.requires c.args.number c.loop.counter c.loop.node.index c.prev-node.result.index c.loop.invariant c.loop-test.true
    c.prev-node.ensures) c.in_ok-item.item.now c.in_ok-item.ensures c.if-item-number.true

pub loop-preserved : goal.loop-preserved
loop-preserved g c =
    passes c.args.self.now c.requires c.args.number c.loop.counter c.prev-node.result.index
    (next c.args.self.now c.requires c.args.number c.loop.counter c.loop.node.index c.prev-node.result.index c.loop.invariant c.loop-test.true
    c.prev-node.ensures) c.in_ok-item.item.now c.in_ok-item.ensures c.if-item-number.false

pub returns : goal.returns
returns g c =
    let end : c.loop.counter ≡ c.args.self.now.count = omega (arith, c.loop-test.false, c.loop.auto.counter-end) in
    all_others c.args.self.now c.requires c.args.number c.loop.node.index
    (subst (λ n. IsPassed c.args.self.now c.args.number n c.loop.node.index) end c.loop.invariant)
