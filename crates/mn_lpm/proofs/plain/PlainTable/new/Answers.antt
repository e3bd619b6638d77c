use Rattle.mn_prefix.proofs.Tables.{nothing_held}
use Rattle.mn_lpm.proofs.plain.PlainTable.new.Goals as goal

pub invariant_of-result : goal.invariant_of-result
invariant_of-result g c = nothing_held _ c.new.ensures.items
