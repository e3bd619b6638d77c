use Rattle.mn_topo.proofs.Ends.{name_again}
use Rattle.mn_topo.proofs.laws.name_again.Goals as goal

pub returns : goal.returns
returns c = name_again
