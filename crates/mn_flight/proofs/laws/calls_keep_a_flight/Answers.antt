use Rattle.mn_flight.proofs.Kept.{none_flies, flight_push, flight_without, flight_off}
use Rattle.mn_flight.proofs.laws.calls_keep_a_flight.Goals as goal

pub returns-clause-none_yet : goal.returns-clause-none_yet
returns-clause-none_yet g c = none_flies

pub returns-clause-pushed : goal.returns-clause-pushed
returns-clause-pushed g c = λ channels items item flight below above. flight_push channels items item flight above below

pub returns-clause-taken : goal.returns-clause-taken
returns-clause-taken g c = flight_without

pub returns-clause-dropped : goal.returns-clause-dropped
returns-clause-dropped g c = flight_off
