use Rattle.std.proofs.Common.{◌≡◌, ◌-◌, arith, sym, subst}
use Rattle.mn_flight_pool.specs.Whole.{IsPlaced}
use Rattle.mn_flight_pool.proofs.Whole.{node_there}
use Rattle.mn_flight_pool.proofs.Pointing.{before_placed}
use Rattle.mn_flight_pool.proofs.pool.Pool.take_at.Goals as goal

pub prev-before-requires : goal.prev-before-requires
prev-before-requires g c = node_there c.args.self.now c.requires c.in_ok-node.node.index c.in_ok-node.ensures.0

pub returns-then-place-gt0-clause-whole : goal.returns-then-place-gt0-clause-whole
returns-then-place-gt0-clause-whole g c =
    let w = c.take-item.ensures.whole in
    let at = c.in_ok-node.ensures.2 in
    let same : c.from.result - 1 ≡ c.args.place - 1 = omega (arith, c.from.ensures) in
    let before = before_placed c.args.self.now c.requires c.args.channel c.args.place c.in_ok-node.node.index c.prev-before.result.index at c.if-place-gt0.true
    c.prev-before.ensures in
    let finger =
    c.take-item.ensures.before c.args.channel c.args.place (c.from.result - 1) c.prev-before.result.index at
    (subst (λ k. IsPlaced c.args.self.now c.args.channel k c.prev-before.result.index) (sym same) before)
    (omega (arith, c.from.ensures, c.if-place-gt0.true)) in
    assumption (finger, w)
