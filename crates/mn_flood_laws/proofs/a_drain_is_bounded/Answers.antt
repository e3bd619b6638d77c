use Rattle.mn_flood_laws.specs.Flood.{flood_of}
use Rattle.mn_flood_laws.proofs.Start.{every_flood}
use Rattle.mn_flood_laws.proofs.Draining.{drain_ends}
use Rattle.mn_flood_laws.proofs.a_drain_is_bounded.Goals as goal

pub returns : goal.returns
returns c = λ wiring events joins differ h. drain_ends wiring joins differ (flood_of wiring events) (every_flood wiring joins differ events h)
