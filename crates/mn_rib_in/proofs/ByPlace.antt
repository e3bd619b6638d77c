-- Received routes in an ordered map, at their distinguishers and prefixes.
use Rattle.std.proofs.Common.{ℕ, ◌≡◌, true, false, arith, ◌∙◌, ap}
use Rattle.std.specs.declared.cmp.Ordering.{Ordering}
use Rattle.std.specs.declared.cmp.Ordering.TheVariants.{Less, Equal, Greater}
use Rattle.std.specs.Ordering.{nat_cmp, ordering_then}
use Rattle.std.proofs.lemmas.Bool.Decides.{nat_tests}
use Rattle.mn_base.specs.declared.numbers.Rd.{Rd}
use Rattle.mn_by_key_laws.specs.ByKey.{Goes}
use Rattle.mn_prefix.specs.Prefix.{AddressBlock, by_address_then_length}
use Rattle.mn_rib_in.specs.Heard.{Heard, heard_before}
use Rattle.mn_rib_in.specs.Kept.{key_of}
use Rattle.mn_rib_in.proofs.Orders.{heard_order}

abbrev pub by_rd_then_prefix : Rd × AddressBlock → Rd × AddressBlock → Ordering
by_rd_then_prefix k l = ordering_then (nat_cmp k.0.0 l.0.0) (by_address_then_length k.1 l.1)

less : (x y : Heard) → by_rd_then_prefix (key_of x) (key_of y) ≡ Less → heard_before x y ≡ true
less x y h = grind (arith, nat_tests, h)

equal : (x y : Heard) → by_rd_then_prefix (key_of x) (key_of y) ≡ Equal → heard_before x y ≡ false
equal x y h = grind (arith, nat_tests, h)

greater : (x y : Heard) → by_rd_then_prefix (key_of x) (key_of y) ≡ Greater → heard_before y x ≡ true
greater x y h = grind (arith, nat_tests, h)

record Same (k l : Rd × AddressBlock) : Type 0 where
  rd : k.0.0 ≡ l.0.0
  address : k.1.address ≡ l.1.address
  length : k.1.length ≡ l.1.length

parts : (k l : Rd × AddressBlock) → by_rd_then_prefix k l ≡ Equal → Same k l
parts k l h = record { rd = grind (arith, nat_tests, h); address = grind (arith, nat_tests, h); length = grind (arith, nat_tests, h) }

same : (k l : Rd × AddressBlock) → by_rd_then_prefix k l ≡ Equal → k ≡ l
same k l h =
    let p = parts k l h in
    ap (λ (n : ℕ). (record { 0 = n }, record { address = k.1.address; length = k.1.length })) p.rd
    ∙ ap (λ (n : ℕ). (l.0, record { address = n; length = k.1.length })) p.address
    ∙ ap (λ (n : ℕ). (l.0, record { address = l.1.address; length = n })) p.length

pub by_place : Goes by_rd_then_prefix heard_before key_of
by_place = record { order = heard_order; less = less; equal = equal; greater = greater; same = same }
