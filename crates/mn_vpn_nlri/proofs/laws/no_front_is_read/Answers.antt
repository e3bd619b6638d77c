use Rattle.mn_vpn_nlri.proofs.Routes.{cut_is_short}
use Rattle.mn_vpn_nlri.proofs.laws.no_front_is_read.Goals as goal

pub returns : goal.returns
returns c = cut_is_short
