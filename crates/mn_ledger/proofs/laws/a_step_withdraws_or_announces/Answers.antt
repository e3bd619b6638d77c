use Rattle.mn_ledger.proofs.OneKind.{tells_one_kind}
use Rattle.mn_ledger.proofs.laws.a_step_withdraws_or_announces.Goals as goal

pub returns : goal.returns
returns c = tells_one_kind
