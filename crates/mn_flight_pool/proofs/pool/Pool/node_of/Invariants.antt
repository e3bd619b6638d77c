use Rattle.mn_flight_pool.specs.Newest.{IsPassed}
use Rattle.mn_flight_pool.proofs.pool.Pool.node_of.Given as goal

abbrev pub invariant-loop : goal.invariant-loop
invariant-loop g l = IsPassed l.self l.number l.counter l.node.index
