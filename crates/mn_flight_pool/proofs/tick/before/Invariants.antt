use Rattle.std.proofs.Common.{◌≤◌, ◌-◌, length}
use Rattle.mn_flight_pool.specs.Ticks.{earlier}
use Rattle.mn_flight_pool.proofs.tick.before.Given as goal

abbrev pub invariant-loop-low : goal.invariant-loop-low
invariant-loop-low l = (l.low ≤ earlier l.due l.ticks) × (earlier l.due l.ticks ≤ l.high) × (l.high ≤ length l.ticks)

abbrev pub decreases-loop-low : goal.decreases-loop-low
decreases-loop-low l = l.high - l.low
