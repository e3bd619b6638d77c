use Rattle.mn_bgp_spelling_laws.proofs.Coming.{spelled, read}
use Rattle.mn_bgp_spelling_laws.proofs.laws.what_is_told_is_read.Goals as goal

pub returns-clause-spelled : goal.returns-clause-spelled
returns-clause-spelled c = spelled

pub returns-clause-read : goal.returns-clause-read
returns-clause-read c = read
