use Rattle.std.proofs.Common.{◌≡◌, ◌+◌}
use Rattle.mn_flight_pool.specs.Rings.{prev_of}
use Rattle.mn_flight_pool.specs.declared.node.Pair.TheVariants.{Channel}
use Rattle.mn_flight_pool.specs.Pool.{steps_of}
use Rattle.mn_flight_pool.proofs.walk.back.Given as goal

abbrev pub invariant-loop : goal.invariant-loop
invariant-loop g l = record { at : l.at.index ≡ steps_of (prev_of Channel l.store) l.fn.first.index l.counter; steps : l.steps ≡ l.fn.steps + l.counter }
