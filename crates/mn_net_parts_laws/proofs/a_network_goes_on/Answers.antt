use Rattle.mn_net_parts_laws.proofs.Going.{goes_on}
use Rattle.mn_net_parts_laws.proofs.a_network_goes_on.Goals as goal

pub returns : goal.returns
returns c = goes_on
