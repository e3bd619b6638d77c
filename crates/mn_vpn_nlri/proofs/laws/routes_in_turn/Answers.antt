use Rattle.std.proofs.Common.{[], refl}
use Rattle.mn_vpn_nlri.proofs.InTurn.{ended, of_next, of_refused}
use Rattle.mn_vpn_nlri.proofs.laws.routes_in_turn.Goals as goal

pub returns-clause-end : goal.returns-clause-end
returns-clause-end c = ended 0 [] refl

pub returns-clause-first : goal.returns-clause-first
returns-clause-first c = of_next

pub returns-clause-refused : goal.returns-clause-refused
returns-clause-refused c = of_refused
