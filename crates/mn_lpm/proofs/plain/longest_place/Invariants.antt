use Rattle.mn_prefix.specs.Places.{IsBestPlace}
use Rattle.mn_lpm.proofs.plain.longest_place.Given as goal

abbrev pub invariant-loop-i : goal.invariant-loop-i
invariant-loop-i g l = IsBestPlace l.address l.pairs l.i l.best
