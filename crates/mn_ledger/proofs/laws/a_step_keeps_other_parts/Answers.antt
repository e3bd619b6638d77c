use Rattle.mn_ledger.proofs.Parts.{other_parts_kept}
use Rattle.mn_ledger.proofs.laws.a_step_keeps_other_parts.Goals as goal

pub returns : goal.returns
returns c = other_parts_kept
