use Rattle.mn_toward_laws.proofs.Spared.{stays}
use Rattle.mn_toward_laws.proofs.what_is_spared_stays.Goals as goal

pub returns : goal.returns
returns c = stays
