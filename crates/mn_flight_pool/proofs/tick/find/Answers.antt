use Rattle.mn_flight_pool.proofs.Ticks.{missing_of}
use Rattle.mn_flight_pool.proofs.tick.find.Goals as goal

pub returns-else-ticks-i : goal.returns-else-ticks-i
returns-else-ticks-i c = missing_of c.args.due c.args.ticks.now c.before-i.result _ c.before-i.ensures.value c.if-i-ticks.true c.if-ticks-i.false
