use Rattle.mn_lsr.proofs.After.{tables-are}
use Rattle.mn_lsr.proofs.lsr.Lsr.table.Goals as goal

pub returns-clause-stands : goal.returns-clause-stands
returns-clause-stands c = rw (← c.self.view_is) (λ ok. tables-are c.self.inside.parts (c.self.invariant.parts ok))
