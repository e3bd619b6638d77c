use Rattle.std.proofs.Common.{arith}
use Rattle.mn_flight_pool.proofs.Whole.{items_count}
use Rattle.mn_flight_pool.proofs.flight.PoolFlightFlight.push.Goals as goal

pub returns-clause-few : goal.returns-clause-few
returns-clause-few g c = omega (arith, items_count c.put.new.self c.put.ensures.whole, c.put.ensures.whole.few)
