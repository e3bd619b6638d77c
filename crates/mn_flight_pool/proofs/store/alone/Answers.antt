use Rattle.mn_flight_pool.proofs.Firsts.{links_more}
use Rattle.mn_flight_pool.proofs.store.alone.Goals as goal

pub loop-index-preserved : goal.loop-index-preserved
loop-index-preserved c =
    links_more c.loop-index.index c.loop-index.links.items c.push.new.self.items c.loop-index.invariant (c.in_ok-push.ensures).items
