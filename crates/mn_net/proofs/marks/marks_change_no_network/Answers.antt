use Rattle.mn_net.proofs.Still.{still}
use Rattle.mn_net.proofs.marks.marks_change_no_network.Goals as goal

pub returns : goal.returns
returns c = still
