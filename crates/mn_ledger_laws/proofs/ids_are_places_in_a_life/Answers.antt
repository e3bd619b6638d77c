use Rattle.mn_ledger_laws.proofs.Saids.{says_with_ids}
use Rattle.mn_ledger_laws.proofs.ids_are_places_in_a_life.Goals as goal

pub returns : goal.returns
returns c = says_with_ids
