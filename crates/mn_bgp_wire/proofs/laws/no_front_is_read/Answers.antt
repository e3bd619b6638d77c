use Rattle.mn_bgp_wire.proofs.Messages.{front_is_short, front_is_refused}
use Rattle.mn_bgp_wire.proofs.laws.no_front_is_read.Goals as goal

pub returns-clause-header : goal.returns-clause-header
returns-clause-header c = front_is_short

pub returns-clause-body : goal.returns-clause-body
returns-clause-body c = front_is_refused
