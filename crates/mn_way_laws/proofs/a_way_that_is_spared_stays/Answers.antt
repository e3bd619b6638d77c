use Rattle.mn_way_laws.proofs.Spared.{keeps}
use Rattle.mn_way_laws.proofs.a_way_that_is_spared_stays.Goals as goal

pub returns : goal.returns
returns c = keeps
