use Rattle.std.proofs.Common.{◌≡◌, length}
use Rattle.mn_failures.specs.Language.{is_twice}
use Rattle.mn_failures.proofs.read.is_twice.Given as goal

abbrev pub invariant-parts : goal.invariant-parts
invariant-parts l = is_twice l.rest ≡ is_twice l.parts

abbrev pub decreases-parts : goal.decreases-parts
decreases-parts l = length l.rest
