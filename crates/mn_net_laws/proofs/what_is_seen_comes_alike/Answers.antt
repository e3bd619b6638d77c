use Rattle.mn_net_laws.proofs.Comes.{comes_alike}
use Rattle.mn_net_laws.proofs.what_is_seen_comes_alike.Goals as goal

pub returns : goal.returns
returns c = comes_alike
