use Rattle.std.proofs.Common.{ap}
use Rattle.mn_bgp_reflected.proofs.Values.{done, one_more, all_read}
use Rattle.mn_bgp_reflected.proofs.read.addresses_of.Goals as goal

pub addresses-preserved : goal.addresses-preserved
addresses-preserved c =
    one_more _ c.addresses.rest.now c.addresses.addresses.items c.in-Some.octets.now c.in-Some.behind.now c.push.new.self.items c.read_u32-address.result
    c.in-Some.ensures.cases.0 c.in-Some.ensures.cases.1 c.in-Some.ensures.cases.2 c.read_u32-address.ensures
    c.in_ok-push.ensures.items
    c.addresses.invariant

pub returns : goal.returns
returns c = ap done (all_read _ c.addresses.rest.now c.addresses.addresses.items c.in_default.ensures.cases c.addresses.invariant)
