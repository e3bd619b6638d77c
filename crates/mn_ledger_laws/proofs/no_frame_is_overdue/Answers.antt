use Rattle.mn_ledger_laws.proofs.Aging.{none_is_overdue}
use Rattle.mn_ledger_laws.proofs.no_frame_is_overdue.Goals as goal

pub returns : goal.returns
returns c = none_is_overdue
