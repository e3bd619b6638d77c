use Rattle.std.proofs.Common.{◌≡◌, ◌++◌, length}
use Rattle.mn_bgp_reflected.specs.Reading.{addresses_of}
use Rattle.mn_bgp_reflected.proofs.read.addresses_of.Given as goal

-- the addresses so far, and those of the bytes that are left, are all
abbrev pub invariant-addresses : goal.invariant-addresses
invariant-addresses l = l.addresses.items ++ addresses_of l.rest ≡ addresses_of l.bytes

abbrev pub decreases-addresses : goal.decreases-addresses
decreases-addresses l = length l.rest
