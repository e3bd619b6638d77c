-- Received routes in an ordered map, at their VRFs and prefixes.
use Rattle.std.proofs.Common.{ℕ, ◌≡◌, true, false, arith, ◌∙◌, ap}
use Rattle.std.specs.Prelude.{nat_lt}
use Rattle.std.specs.declared.cmp.Ordering.{Ordering}
use Rattle.std.specs.declared.cmp.Ordering.TheVariants.{Less, Equal, Greater}
use Rattle.std.specs.Ordering.{nat_cmp, ordering_then}
use Rattle.std.proofs.lemmas.Bool.Decides.{nat_tests}
use Rattle.mn_base.specs.Ordered.{first_by, IsOrder}
use Rattle.mn_base.proofs.Orders.{by_number, by_number_then}
use Rattle.mn_by_key_laws.specs.ByKey.{Goes}
use Rattle.mn_prefix.specs.Prefix.{AddressBlock, by_address_then_length}
use Rattle.mn_offers.specs.Heard.{Heard, heard_before}
use Rattle.mn_offers.specs.Kept.{name_of}

pub heard_order : IsOrder heard_before
heard_order =
    by_number_then (λ (x : Heard). x.vrf) (λ x y. first_by x.prefix.address y.prefix.address (nat_lt x.prefix.length y.prefix.length))
    (by_number_then (λ (x : Heard). x.prefix.address) (λ x y. nat_lt x.prefix.length y.prefix.length) (by_number (λ (x : Heard). x.prefix.length)))

abbrev pub by_vrf_then_prefix : ℕ × AddressBlock → ℕ × AddressBlock → Ordering
by_vrf_then_prefix k l = ordering_then (nat_cmp k.0 l.0) (by_address_then_length k.1 l.1)

less : (x y : Heard) → by_vrf_then_prefix (name_of x) (name_of y) ≡ Less → heard_before x y ≡ true
less x y h = grind (arith, nat_tests, h)

equal : (x y : Heard) → by_vrf_then_prefix (name_of x) (name_of y) ≡ Equal → heard_before x y ≡ false
equal x y h = grind (arith, nat_tests, h)

greater : (x y : Heard) → by_vrf_then_prefix (name_of x) (name_of y) ≡ Greater → heard_before y x ≡ true
greater x y h = grind (arith, nat_tests, h)

record Same (k l : ℕ × AddressBlock) : Type 0 where
  vrf : k.0 ≡ l.0
  address : k.1.address ≡ l.1.address
  length : k.1.length ≡ l.1.length

parts : (k l : ℕ × AddressBlock) → by_vrf_then_prefix k l ≡ Equal → Same k l
parts k l h = record { vrf = grind (arith, nat_tests, h); address = grind (arith, nat_tests, h); length = grind (arith, nat_tests, h) }

same : (k l : ℕ × AddressBlock) → by_vrf_then_prefix k l ≡ Equal → k ≡ l
same k l h =
    let p = parts k l h in
    ap (λ (n : ℕ). (n, record { address = k.1.address; length = k.1.length })) p.vrf
    ∙ ap (λ (n : ℕ). (l.0, record { address = n; length = k.1.length })) p.address
    ∙ ap (λ (n : ℕ). (l.0, record { address = l.1.address; length = n })) p.length

pub by_name : Goes by_vrf_then_prefix heard_before name_of
by_name = record { order = heard_order; less = less; equal = equal; greater = greater; same = same }
