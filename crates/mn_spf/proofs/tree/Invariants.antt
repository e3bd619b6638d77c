use Rattle.std.proofs.Common.{ℕ}
use Rattle.mn_spf.specs.Search.{state_of, unsettled, IsSearch, NoneOpen}
use Rattle.mn_spf.proofs.tree.Given as goal

abbrev pub invariant-loop-way : goal.invariant-loop-way
invariant-loop-way l = (limit : ℕ) × IsSearch l.view l.root.0 NoneOpen limit (state_of l.search)

abbrev pub decreases-loop-way : goal.decreases-loop-way
decreases-loop-way l = unsettled (state_of l.search)
