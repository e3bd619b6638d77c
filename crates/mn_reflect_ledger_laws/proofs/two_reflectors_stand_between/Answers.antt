use Rattle.mn_reflect_ledger_laws.proofs.Rows.{are_through_two}
use Rattle.mn_reflect_ledger_laws.proofs.two_reflectors_stand_between.Goals as goal

pub returns : goal.returns
returns c = are_through_two
