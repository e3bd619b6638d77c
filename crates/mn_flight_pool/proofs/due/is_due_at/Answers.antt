use Rattle.mn_flight_pool.proofs.Nodes.{room_there}
use Rattle.mn_flight_pool.proofs.due.is_due_at.Goals as goal

pub item-requires : goal.item-requires
item-requires g c = room_there c.args.store.now c.args.node.index c.requires
