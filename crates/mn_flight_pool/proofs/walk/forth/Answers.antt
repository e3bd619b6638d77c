use Rattle.mn_flight_pool.specs.declared.node.Pair.TheVariants.{Channel}
use Rattle.mn_flight_pool.proofs.Walks.{forth_there}
use Rattle.mn_flight_pool.proofs.walk.forth.Goals as goal

pub next-at-requires : goal.next-at-requires
next-at-requires g c =
    forth_there Channel c.args.store.now c.requires.0 c.requires.1 c.requires.2 c.args.first.index c.requires.3 c.loop.counter c.loop.at.index
    c.loop.invariant.at
