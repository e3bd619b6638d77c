use Rattle.mn_lsr.proofs.After.{tables-are}
use Rattle.mn_lsr.proofs.lsr.Lsr.open.Goals as goal

pub returns-in-Ok-clause-table : goal.returns-in-Ok-clause-table
returns-in-Ok-clause-table c = tables-are c.open.new.self c.in-Ok.ensures.stands

pub returns-in-Ok-clause-labels : goal.returns-in-Ok-clause-labels
returns-in-Ok-clause-labels c = rw (← c.self.view_is) c.in-Ok.ensures.labels

pub returns-in-Ok-clause-resting : goal.returns-in-Ok-clause-resting
returns-in-Ok-clause-resting c = rw (← c.self.view_is) c.in-Ok.ensures.resting
