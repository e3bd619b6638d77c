use Rattle.std.proofs.Common.{◌≡◌, List, length, Some}
use Rattle.mn_bgp_wire.specs.Grammar.{PathAttribute}
use Rattle.mn_bgp_wire.specs.Reading.{attributes_of}
use Rattle.mn_bgp_reflected.proofs.Walk.{IsLeft}
use Rattle.mn_bgp_reflected.proofs.attributes.value_of.Given as goal

abbrev pub invariant-attributes : goal.invariant-attributes
invariant-attributes l = (all : List PathAttribute) → attributes_of l.bytes ≡ Some all → IsLeft l.kind all l.rest

abbrev pub decreases-attributes : goal.decreases-attributes
decreases-attributes l = length l.rest
