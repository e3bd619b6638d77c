use Rattle.mn_ledger_laws.proofs.Accounted.{frames_good}
use Rattle.mn_ledger_laws.proofs.what_flies_is_a_good_packet.Goals as goal

pub returns : goal.returns
returns c = frames_good
