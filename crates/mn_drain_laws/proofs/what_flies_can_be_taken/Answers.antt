use Rattle.mn_drain_laws.proofs.Taking.{takes_what_flies}
use Rattle.mn_drain_laws.proofs.what_flies_can_be_taken.Goals as goal

pub returns : goal.returns
returns c = takes_what_flies
