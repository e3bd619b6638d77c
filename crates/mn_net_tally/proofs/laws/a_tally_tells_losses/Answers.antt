use Rattle.std.proofs.Common.{sym, subst}
use Rattle.mn_net_tally.specs.Rising.{AreRising}
use Rattle.mn_net_tally.proofs.Counting.{tells}
use Rattle.mn_net_tally.proofs.Few.{few_sent}
use Rattle.mn_net_tally.proofs.Rising.{lost_rise}
use Rattle.mn_net_tally.proofs.laws.a_tally_tells_losses.Goals as goal

pub returns-clause-tells : goal.returns-clause-tells
returns-clause-tells c = tells

pub returns-clause-order : goal.returns-clause-order
returns-clause-order c =
    λ t es ps tally lawful journal h. (subst AreRising (sym h.lossy) (lost_rise t es ps lawful journal), λ n below. few_sent t es ps tally n h below)
