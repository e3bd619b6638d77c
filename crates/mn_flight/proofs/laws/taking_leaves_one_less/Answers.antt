use Rattle.mn_flight.proofs.Kept.{placed_less, earliest_less}
use Rattle.mn_flight.proofs.laws.taking_leaves_one_less.Goals as goal

pub returns-clause-by_place : goal.returns-clause-by_place
returns-clause-by_place g c = placed_less

pub returns-clause-earliest : goal.returns-clause-earliest
returns-clause-earliest g c = earliest_less
