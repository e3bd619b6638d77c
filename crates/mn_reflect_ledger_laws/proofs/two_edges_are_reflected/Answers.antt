use Rattle.mn_reflect_ledger_laws.proofs.Rows.{are_reflected}
use Rattle.mn_reflect_ledger_laws.proofs.two_edges_are_reflected.Goals as goal

pub returns : goal.returns
returns c = are_reflected
