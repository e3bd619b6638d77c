-- A prefix as protocols carry it: of its address only the bytes that hold the network's bits, and back.
-- RFC 5036, section 3.4.1, and RFC 4271, section 4.3, both have it so.
use Rattle.std.specs.Prelude.{ℕ, ◌+◌, ◌/◌, List, take}
use Rattle.byteorder.specs.Endian.{big_bytes, big_number}
use Rattle.mn_prefix.specs.Prefix.{AddressBlock}

-- the bytes that hold so many bits
abbrev pub octets : ℕ → ℕ
octets bits = (bits + 7) / 8

-- of the address, the bytes that hold the network's bits
abbrev pub prefix_octets : AddressBlock → List ℕ
prefix_octets prefix = take (octets prefix.length) (big_bytes 4 prefix.address)

-- the address that begins with these bytes: a byte that isn't there is zero
abbrev pub address_of : List ℕ → ℕ
address_of first_bytes = big_number 4 first_bytes
