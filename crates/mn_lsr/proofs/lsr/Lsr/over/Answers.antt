use Rattle.mn_lsr.proofs.After.{tables-are}
use Rattle.mn_lsr.proofs.lsr.Lsr.over.Goals as goal

pub returns-clause-table : goal.returns-clause-table
returns-clause-table c = tables-are c.in_ok-parts.parts c.in_ok-parts.ensures.stands
