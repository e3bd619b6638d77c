use Rattle.mn_ledger.proofs.InTurn.{in_turn}
use Rattle.mn_ledger.proofs.laws.sessions_are_in_turn.Goals as goal

pub returns : goal.returns
returns c = in_turn
