use Rattle.mn_flight_pool.proofs.Whole.{node_there}
use Rattle.mn_flight_pool.proofs.pool.Pool.item.Goals as goal

pub item-requires : goal.item-requires
item-requires g c = node_there c.args.self.now c.requires.whole c.args.node.index c.requires.node
