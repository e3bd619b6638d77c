use Rattle.std.proofs.Common.{◌≡◌, length}
use Rattle.mn_bgp_wire.specs.Reading.{has_twice}
use Rattle.mn_bgp_wire.proofs.attributes.has_twice.Given as goal

abbrev pub invariant-attributes : goal.invariant-attributes
invariant-attributes l = has_twice l.rest ≡ has_twice l.attributes

abbrev pub decreases-attributes : goal.decreases-attributes
decreases-attributes l = length l.rest
