use Rattle.std.proofs.Common.{◌≡◌, ◌≤◌, ◌-◌}
use Rattle.mn_flight_pool.specs.Whole.{items_of, IsWhole}
use Rattle.mn_flight_pool.proofs.flight.PoolFlightFlight.reserve.Given as goal

abbrev pub invariant-loop-self : goal.invariant-loop-self
invariant-loop-self g l = record {
  whole : IsWhole l.self-inside.pool;
  items : items_of l.self-inside.pool ≡ l.fn.self.items;
  channels : l.self-inside.pool.channels ≡ l.fn.self.channels;
  spare : l.fn.self.spare ≤ l.self-inside.pool.free.count;
  enough : l.more ≤ l.fn.self.spare → l.self-inside.pool.free.count ≡ l.fn.self.spare;
}

abbrev pub decreases-loop-self : goal.decreases-loop-self
decreases-loop-self g l = l.more - l.self-inside.pool.free.count
