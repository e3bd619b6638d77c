use Rattle.std.proofs.Common.{ℕ, Result, Ok, Err}
use Rattle.std.specs.Prelude.{OnOk}
use Rattle.mn_labels.specs.declared.refusal.LabelBad.{LabelBad}
use Rattle.mn_lsr.proofs.After.{tables-are}
use Rattle.mn_lsr.proofs.lsr.Lsr.attach.Goals as goal

pub returns-clause-table : goal.returns-clause-table
returns-clause-table c = by c.attach.result (tables-are c.attach.new.self c.attach.ensures.stands)
  where
    by : {P : Type 0} (r : Result ℕ LabelBad) → P → OnOk r P
    by (Ok label) h = h
    by (Err bad) h = tt
