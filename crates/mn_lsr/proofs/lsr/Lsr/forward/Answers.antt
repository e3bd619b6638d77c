use Rattle.mn_lsr.proofs.After.{tables-are}
use Rattle.mn_lsr.proofs.lsr.Lsr.forward.Goals as goal

pub returns-clause-table : goal.returns-clause-table
returns-clause-table c = rw (← c.self.view_is) (λ ok. tables-are c.self.inside.parts (c.self.invariant.parts ok))
