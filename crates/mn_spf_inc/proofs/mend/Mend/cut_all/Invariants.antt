use Rattle.mn_spf_inc.specs.Mending.{state_of, left, IsCutting, NoneLate}
use Rattle.mn_spf_inc.proofs.mend.Mend.cut_all.Given as goal

abbrev pub invariant-loop-way : goal.invariant-loop-way
invariant-loop-way g l = IsCutting l.net l.root.0 NoneLate (state_of l.self)

abbrev pub decreases-loop-way : goal.decreases-loop-way
decreases-loop-way g l = left (state_of l.self)
