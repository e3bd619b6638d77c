use Rattle.std.proofs.Common.{◌≡◌, length}
use Rattle.mn_bgp_wire.specs.Reading.{attributes_of}
use Rattle.mn_bgp_wire.proofs.Split.{behind}
use Rattle.mn_bgp_wire.proofs.attributes.attributes_of.Given as goal

abbrev pub invariant-attributes : goal.invariant-attributes
invariant-attributes l = behind l.attributes.items (attributes_of l.rest) ≡ attributes_of l.bytes

abbrev pub decreases-attributes : goal.decreases-attributes
decreases-attributes l = length l.rest
