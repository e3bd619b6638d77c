-- Each verdict is computed.
use Rattle.std.proofs.Common.{refl}
use Rattle.mn_ledger.proofs.Running.{a_run}
use Rattle.mn_reach_laws.specs.TwoHomes.{TwoHomesHaveTheirVerdicts}

pub cases : TwoHomesHaveTheirVerdicts
unfolding a_run
cases = record { better = refl; kept = refl; resolved = refl; none_resolves = refl; other_session = refl }
