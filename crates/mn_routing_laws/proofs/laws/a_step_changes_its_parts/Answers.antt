use Rattle.mn_routing_laws.proofs.GoingOn.{goes_by_parts}
use Rattle.mn_routing_laws.proofs.laws.a_step_changes_its_parts.Goals as goal

pub returns : goal.returns
returns c = goes_by_parts
