use Rattle.std.proofs.Common.{◌-◌, ◌<◌, length, arith}
use Rattle.mn_flight_pool.proofs.Whole.{recent_at}
use Rattle.mn_flight_pool.proofs.Newest.{found_at}
use Rattle.mn_flight_pool.proofs.pool.Pool.recent_of.Goals as goal

pub item-requires-clause-node : goal.item-requires-clause-node
item-requires-clause-node g c =
    let at = c.len-count.result - 1 - c.in_ok-back.back in
    let there : at < length c.args.self.now.recent.items =
    omega (arith, c.len-count.ensures, c.if-back-count.false, c.args.self.now.recent.ok.0) in
    recent_at c.args.self.now c.requires at c.index-node.result.now there c.index-node.ensures

pub returns-then-recent-number-clause-node : goal.returns-then-recent-number-clause-node
returns-then-recent-number-clause-node g c =
    let at = c.len-count.result - 1 - c.in_ok-back.back in
    let there : at < length c.args.self.now.recent.items =
    omega (arith, c.len-count.ensures, c.if-back-count.false, c.args.self.now.recent.ok.0) in
    found_at c.args.self.now c.requires c.args.number c.index-node.result.now.index
    (recent_at c.args.self.now c.requires at c.index-node.result.now there c.index-node.ensures) c.in_ok-recent.recent.now c.in_ok-recent.ensures.value
    c.if-recent-number.true
