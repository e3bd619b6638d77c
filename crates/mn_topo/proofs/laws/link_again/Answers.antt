use Rattle.mn_topo.proofs.Ends.{link_again}
use Rattle.mn_topo.proofs.laws.link_again.Goals as goal

pub returns : goal.returns
returns c = link_again
