use Rattle.mn_prefix.proofs.Matches.{longest_some}
use Rattle.mn_prefix.proofs.laws.longest_of_a_table.Goals as goal

pub returns-clause-some : goal.returns-clause-some
returns-clause-some g c = longest_some
