use Rattle.std.proofs.Common.{arith}
use Rattle.mn_transit.proofs.Aging.{no_items, nothing_ages}
use Rattle.mn_transit.proofs.transit.Transit.expire.Goals as goal

pub returns-else-in_flight-gt0-clause-moved : goal.returns-else-in_flight-gt0-clause-moved
returns-else-in_flight-gt0-clause-moved c = λ given packets stands due.
    nothing_ages c.args.topology.now given c.args.clock c.args.self.now packets
    (no_items c.args.self.now.flying (omega (arith, c.if-in_flight-gt0.false, c.in_flight.ensures))) stands due
