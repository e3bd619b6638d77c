use Rattle.mn_lsr.proofs.After.{tables-are}
use Rattle.mn_lsr.proofs.lsr.Lsr.detach.Goals as goal

pub returns-then-not-self-clause-table : goal.returns-then-not-self-clause-table
returns-then-not-self-clause-table c = λ ok. tables-are c.detach.new.self c.detach.ensures.stands
