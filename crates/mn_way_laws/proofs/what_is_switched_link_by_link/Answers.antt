use Rattle.mn_way_laws.proofs.Paths.{link-by-link}
use Rattle.mn_way_laws.proofs.what_is_switched_link_by_link.Goals as goal

pub returns : goal.returns
returns c = link-by-link
