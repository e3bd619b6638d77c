use Rattle.mn_reach.specs.Finding.{AreByHome}
use Rattle.mn_reach.proofs.listed.pairs_by_home.Given as goal

-- of the pairs before this one
abbrev pub invariant-loop-number : goal.invariant-loop-number
invariant-loop-number l = AreByHome l.topology l.pairs l.number l.lists.items
