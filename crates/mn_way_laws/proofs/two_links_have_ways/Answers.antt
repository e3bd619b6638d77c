use Rattle.mn_way_laws.proofs.TwoLinks.{ways}
use Rattle.mn_way_laws.proofs.two_links_have_ways.Goals as goal

pub returns : goal.returns
returns c = ways
