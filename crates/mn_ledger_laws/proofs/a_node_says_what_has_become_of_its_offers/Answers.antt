use Rattle.mn_ledger_laws.proofs.Saying.{says_its_news}
use Rattle.mn_ledger_laws.proofs.a_node_says_what_has_become_of_its_offers.Goals as goal

pub returns : goal.returns
returns c = says_its_news
