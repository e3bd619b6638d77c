use Rattle.std.proofs.Common.{◌≡◌, ◌+◌, length}
use Rattle.mn_flight.specs.Flying.{off_channel}
use Rattle.mn_flight_pool.specs.Whole.{items_of, IsWhole}
use Rattle.mn_flight_pool.proofs.flight.PoolFlightFlight.drop_channel.Given as goal

abbrev pub invariant-loop-node : goal.invariant-loop-node
invariant-loop-node g l = record {
  whole : IsWhole l.self-inside.pool;
  items : off_channel l.channel (items_of l.self-inside.pool) ≡ off_channel l.channel l.fn.self.items;
  channels : l.self-inside.pool.channels ≡ l.fn.self.channels;
  spare : l.self-inside.pool.free.count + length (items_of l.self-inside.pool) ≡ l.fn.self.spare + length l.fn.self.items;
}

abbrev pub decreases-loop-node : goal.decreases-loop-node
decreases-loop-node g l = length (items_of l.self-inside.pool)
