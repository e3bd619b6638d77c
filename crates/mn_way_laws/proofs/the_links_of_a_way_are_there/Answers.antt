use Rattle.mn_way_laws.proofs.Spared.{way-there}
use Rattle.mn_way_laws.proofs.the_links_of_a_way_are_there.Goals as goal

pub returns : goal.returns
returns c = way-there
