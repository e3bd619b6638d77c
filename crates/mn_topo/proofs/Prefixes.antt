-- The test of a prefix tells whether no bit is set past its length.
use Rattle.std.proofs.Common.{◌≡◌, ◌<◌, ◌≤◌, ◌-◌, ◌^◌, ◌%◌, ◌==◌, arith, true, ◌&&◌, nat_le, nat_lt}
use Rattle.std.proofs.lemmas.Bool.Decides.{nat_tests}
use Rattle.std.proofs.lemmas.Bool.{and_parts}
use Rattle.mn_prefix.specs.Prefix.{AddressBlock, IsPrefix}
use Rattle.mn_wiring.proofs.Bools.{and_on, at_most_is, less_is}
use Rattle.mn_topo.specs.SiteTable.{is_lawful_prefix}

pub prefix_is : (p : AddressBlock) → is_lawful_prefix p ≡ true → IsPrefix p.address p.length
prefix_is p h =
    let front = and_parts (nat_lt p.address (2 ^ 32) && nat_le p.length 32) (p.address % 2 ^ (32 - p.length) == 0) h in
    let both = and_parts (nat_lt p.address (2 ^ 32)) (nat_le p.length 32) front.0 in
    record { fits = grind (arith, nat_tests, both.0); short = grind (arith, nat_tests, both.1); clear = grind (arith, nat_tests, front.1) }

pub passes : (p : AddressBlock) → p.address < 2 ^ 32 → p.length ≤ 32 → (p.address % 2 ^ (32 - p.length) == 0) ≡ true → is_lawful_prefix p ≡ true
passes p fits short clear =
    and_on (nat_lt p.address (2 ^ 32) && nat_le p.length 32) (p.address % 2 ^ (32 - p.length) == 0)
    (and_on (nat_lt p.address (2 ^ 32)) (nat_le p.length 32) (less_is p.address (2 ^ 32) fits) (at_most_is p.length 32 short)) clear

pub is_lawful : (p : AddressBlock) → IsPrefix p.address p.length → is_lawful_prefix p ≡ true
is_lawful p h = passes p h.fits h.short (grind (arith, nat_tests, h.clear))
