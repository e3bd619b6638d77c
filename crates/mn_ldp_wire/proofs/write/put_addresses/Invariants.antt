use Rattle.std.proofs.Common.{◌≡◌, ◌++◌, take}
use Rattle.std.specs.List.{flat_map}
use Rattle.byteorder.specs.Endian.{big_bytes}
use Rattle.mn_ldp_wire.proofs.write.put_addresses.Given as goal

abbrev pub invariant-addresses : goal.invariant-addresses
invariant-addresses l = l.out.items ≡ l.initial.out.items ++ flat_map (big_bytes 4) (take l.address-index l.addresses)
