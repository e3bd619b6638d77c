use Rattle.std.proofs.Common.{arith, sym, ap, ◌∙◌}
use Rattle.mn_flight.specs.Flying.{off_channel}
use Rattle.mn_flight_pool.specs.Whole.{items_of}
use Rattle.mn_flight_pool.proofs.Dropped.{off_without, off_all}
use Rattle.mn_flight_pool.proofs.Whole.{flight}
use Rattle.mn_flight_pool.proofs.flight.PoolFlightFlight.drop_channel.Goals as goal

pub loop-node-preserved-in-Some : goal.loop-node-preserved-in-Some
loop-node-preserved-in-Some g c =
    let pool = c.loop-node.self-inside.pool in
    record {
      whole = c.take.ensures.whole;
      items =
          ap (λ l. off_channel c.args.channel l) c.take.ensures.items
          ∙ off_without pool.channels c.args.channel (items_of pool) (flight pool c.loop-node.invariant.whole) c.take.result
          (c.take.ensures.value ∙ c.in-Some.ensures.1) ∙ c.loop-node.invariant.items;
      channels = c.take.ensures.channels ∙ c.loop-node.invariant.channels;
      spare = omega (arith, c.take.ensures.spare, c.take.ensures.length, c.loop-node.invariant.spare);
    }

pub returns-clause-items : goal.returns-clause-items
returns-clause-items g c =
    let pool = c.loop-node.self-inside.pool in
    sym (off_all pool.channels c.args.channel (items_of pool) (flight pool c.loop-node.invariant.whole) (sym c.in_default.ensures))
    ∙ c.loop-node.invariant.items
