use Rattle.mn_vpn_nlri.proofs.Routes.{written_is_route, written_is_read}
use Rattle.mn_vpn_nlri.proofs.laws.written_is_read.Goals as goal

pub returns-clause-grammar : goal.returns-clause-grammar
returns-clause-grammar c = written_is_route

pub returns-clause-reading : goal.returns-clause-reading
returns-clause-reading c = written_is_read
