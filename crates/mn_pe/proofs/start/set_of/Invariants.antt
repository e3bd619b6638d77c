use Rattle.std.proofs.Common.{◌≡◌, [], drop}
use Rattle.mn_pe.specs.Start.{after_targets}
use Rattle.mn_pe.proofs.start.set_of.Given as goal

-- the targets to come end it
abbrev pub invariant-loop-target : goal.invariant-loop-target
invariant-loop-target l = after_targets l.set (drop l.target-index l.targets) ≡ after_targets [] l.targets
