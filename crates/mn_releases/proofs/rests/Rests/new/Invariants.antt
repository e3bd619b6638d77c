use Rattle.std.proofs.Common.{◌≡◌, replicate}
use Rattle.std.specs.Prelude.{None}
use Rattle.mn_releases.proofs.rests.Rests.new.Given as goal

abbrev pub invariant-loop : goal.invariant-loop
invariant-loop l = l.owed.items ≡ replicate l.counter None
