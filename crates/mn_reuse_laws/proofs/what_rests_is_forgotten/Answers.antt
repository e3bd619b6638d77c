use Rattle.mn_reuse_laws.proofs.Laws.{are_forgotten}
use Rattle.mn_reuse_laws.proofs.what_rests_is_forgotten.Goals as goal

pub returns : goal.returns
returns c = are_forgotten
