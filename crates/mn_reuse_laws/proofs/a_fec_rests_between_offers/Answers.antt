use Rattle.mn_reuse_laws.proofs.Laws.{rests}
use Rattle.mn_reuse_laws.proofs.a_fec_rests_between_offers.Goals as goal

pub returns : goal.returns
returns c = rests
