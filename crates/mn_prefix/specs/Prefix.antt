-- RFC 4632, sections 3.1 and 5.1: a prefix, and the addresses that it covers.
use Rattle.std.specs.Prelude.{◌≡◌, ◌≤◌, ◌<◌, ◌==◌, ◌&&◌, ◌-◌, ◌/◌, ◌%◌, ◌^◌, ℕ, Bool, nat_lt}
use Rattle.std.specs.declared.cmp.Ordering.{Ordering}
use Rattle.std.specs.Ordering.{nat_cmp, ordering_then}
use Rattle.mn_base.specs.Ordered.{first_by}

-- a prefix, as contracts see it: an address, and how many of its first bits are the network's
pub record AddressBlock : Type 0 where
  pub address : ℕ
  pub length : ℕ

-- an address of 32 bits, of which no more than 32 are the network's, and the bits after those are zero
pub record IsPrefix (address length : ℕ) : Type 0 where
  pub fits : address < 2 ^ 32
  pub short : length ≤ 32
  pub clear : address % 2 ^ (32 - length) ≡ 0

-- the first bits of an address, as a number
abbrev pub first_bits : ℕ → ℕ → ℕ
first_bits count address = address / 2 ^ (32 - count)

-- the first bits of the address, as many as the prefix is long, are the prefix's
abbrev pub contains : AddressBlock → ℕ → Bool
contains prefix address = first_bits prefix.length address == first_bits prefix.length prefix.address

-- the same address and the same length
abbrev pub same_prefix : AddressBlock → AddressBlock → Bool
same_prefix p q = (p.address == q.address) && (p.length == q.length)

-- by address, and of one address by length
abbrev pub by_address_then_length : AddressBlock → AddressBlock → Ordering
by_address_then_length p q = ordering_then (nat_cmp p.address q.address) (nat_cmp p.length q.length)

-- the same order, as a test
abbrev pub prefix_before : AddressBlock → AddressBlock → Bool
prefix_before p q = first_by p.address q.address (nat_lt p.length q.length)
