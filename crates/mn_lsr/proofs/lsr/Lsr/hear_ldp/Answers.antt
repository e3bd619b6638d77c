use Rattle.mn_lsr.proofs.After.{tables-are}
use Rattle.mn_lsr.proofs.lsr.Lsr.hear_ldp.Goals as goal

pub returns-in-Ok-clause-table : goal.returns-in-Ok-clause-table
returns-in-Ok-clause-table c = tables-are c.hear_bytes.new.self c.in-Ok.ensures.stands

pub returns-in-Err-clause-heard : goal.returns-in-Err-clause-heard
returns-in-Err-clause-heard c = rw (← c.self.view_is) c.in-Err.ensures.heard
