use Rattle.mn_flood_laws.specs.Flood.{flood_of}
use Rattle.mn_flood_laws.proofs.Start.{every_flood}
use Rattle.mn_flood_laws.proofs.Quiet.{trees}
use Rattle.mn_flood_laws.proofs.where_none_flies_the_trees_are_those_of_the_links.Goals as goal

pub returns : goal.returns
returns c = λ wiring events joins differ h quiet. trees wiring joins differ (flood_of wiring events) (every_flood wiring joins differ events h) quiet
