use Rattle.mn_flight_pool.specs.declared.node.Pair.TheVariants.{Channel}
use Rattle.mn_flight_pool.proofs.Walks.{back_there}
use Rattle.mn_flight_pool.proofs.walk.back.Goals as goal

pub prev-at-requires : goal.prev-at-requires
prev-at-requires g c =
    back_there Channel c.args.store.now c.requires.0 c.requires.1 c.requires.2 c.args.first.index c.requires.3 c.loop.counter c.loop.at.index
    c.loop.invariant.at
