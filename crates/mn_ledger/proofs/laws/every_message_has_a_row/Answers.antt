use Rattle.mn_ledger.proofs.InTurn.{rows}
use Rattle.mn_ledger.proofs.laws.every_message_has_a_row.Goals as goal

pub returns : goal.returns
returns c = rows
