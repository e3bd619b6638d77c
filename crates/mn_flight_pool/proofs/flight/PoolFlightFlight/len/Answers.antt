use Rattle.std.proofs.Common.{length, sym, ap, ◌∙◌}
use Rattle.mn_flight.specs.Contents.{Contents}
use Rattle.mn_flight_pool.proofs.Whole.{items_count}
use Rattle.mn_flight_pool.proofs.flight.PoolFlightFlight.len.Goals as goal

pub returns-clause-value : goal.returns-clause-value
returns-clause-value g c = sym (items_count c.self.inside.pool c.self.invariant) ∙ ap (λ (v : Contents g.row.T.Denot). length v.items) c.self.view_is
