use Rattle.mn_reuse_laws.proofs.Laws.{blocks}
use Rattle.mn_reuse_laws.proofs.nobody_sends_over_a_node_at_which_a_fec_rests.Goals as goal

pub returns : goal.returns
returns c = blocks
