use Rattle.std.proofs.Common.{◌≡◌, length}
use Rattle.mn_bgp_wire.specs.Reading.{vpn_among}
use Rattle.mn_bgp_wire.proofs.Offered.{or_found}
use Rattle.mn_bgp_wire.proofs.fields.vpn_among.Given as goal

abbrev pub invariant-capabilities : goal.invariant-capabilities
invariant-capabilities l = or_found l.found (vpn_among l.rest) ≡ vpn_among l.capabilities

abbrev pub decreases-capabilities : goal.decreases-capabilities
decreases-capabilities l = length l.rest
