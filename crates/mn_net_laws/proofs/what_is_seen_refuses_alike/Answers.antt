use Rattle.mn_net_laws.proofs.Rows.{refuses_alike}
use Rattle.mn_net_laws.proofs.what_is_seen_refuses_alike.Goals as goal

pub returns : goal.returns
returns c = refuses_alike
