use Rattle.std.proofs.Common.{◌≡◌, length}
use Rattle.mn_bgp_wire.specs.Reading.{vpn_offered}
use Rattle.mn_bgp_wire.proofs.Offered.{or_found}
use Rattle.mn_bgp_wire.proofs.fields.vpn_offered.Given as goal

abbrev pub invariant-parameters : goal.invariant-parameters
invariant-parameters l = or_found l.found (vpn_offered l.rest) ≡ vpn_offered l.parameters

abbrev pub decreases-parameters : goal.decreases-parameters
decreases-parameters l = length l.rest
