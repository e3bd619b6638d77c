use Rattle.mn_settled_laws.proofs.Offering.{says_its_offers}
use Rattle.mn_settled_laws.proofs.each_end_says_what_it_offers.Goals as goal

pub returns : goal.returns
returns c = says_its_offers
