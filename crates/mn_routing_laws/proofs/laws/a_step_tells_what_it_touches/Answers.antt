use Rattle.mn_routing_laws.proofs.Telling.{tells_what_is_touched}
use Rattle.mn_routing_laws.proofs.laws.a_step_tells_what_it_touches.Goals as goal

pub returns : goal.returns
returns c = tells_what_is_touched
