use Rattle.std.proofs.Common.{◌≡◌, length}
use Rattle.mn_ldp_wire.specs.Reading.{are_passed_over}
use Rattle.mn_ldp_wire.proofs.read.are_passed_over.Given as goal

abbrev pub invariant-further : goal.invariant-further
invariant-further l = are_passed_over l.rest ≡ are_passed_over l.bytes

abbrev pub decreases-further : goal.decreases-further
decreases-further l = length l.rest
