use Rattle.std.proofs.Common.{rules}
use Rattle.mn_lpm.proofs.ByLength.{none_from}
use Rattle.mn_lpm.proofs.levels.LengthTable.new.Goals as goal

pub returns : goal.returns
returns g c = none_from 0 c.from_fn.result (λ i d h. search rules)
