use Rattle.mn_reach.specs.Finding.{AreByLink}
use Rattle.mn_reach.proofs.listed.pairs_by_link.Given as goal

-- of the pairs before this one
abbrev pub invariant-loop-pair : goal.invariant-loop-pair
invariant-loop-pair l = AreByLink l.links l.prospects l.pair l.lists.items
