use Rattle.mn_flood_laws.proofs.Start.{every_flood}
use Rattle.mn_flood_laws.proofs.the_far_end_has_it_or_it_flies.Goals as goal

pub returns : goal.returns
returns c = λ wiring events joins differ h. (every_flood wiring joins differ events h).reaches
