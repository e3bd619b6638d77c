-- A set of no targets.
use Rattle.std.proofs.Common.{arith, [], refl}
use Rattle.std.specs.List.{IsDistinct}
use Rattle.mn_topo.specs.Lawful.{AreTargets}

pub no_targets : AreTargets []
unfolding IsDistinct
no_targets = record { few = omega arith; formed = refl; distinct = tt }
