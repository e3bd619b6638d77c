use Rattle.mn_arrival_laws.proofs.Witness.{two_links_have_one}
use Rattle.mn_arrival_laws.proofs.two_links_have_an_arrival.Goals as goal

pub returns : goal.returns
returns c = two_links_have_one
