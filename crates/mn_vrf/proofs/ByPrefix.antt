-- Statics in an ordered map, at their prefixes.
use Rattle.std.proofs.Common.{◌≡◌, true, false, sym, ◌∙◌, ap, arith}
use Rattle.std.specs.Ordering.{is_eq}
use Rattle.std.specs.declared.cmp.Ordering.TheVariants.{Less, Equal, Greater}
use Rattle.std.proofs.lemmas.Bool.Decides.{nat_tests}
use Rattle.mn_by_key_laws.specs.ByKey.{Goes}
use Rattle.mn_prefix.specs.Prefix.{AddressBlock, by_address_then_length, prefix_before}
use Rattle.mn_prefix.proofs.Tables.{same_exact}
use Rattle.mn_vrf.specs.Vrf.{Static, static_before}
use Rattle.mn_vrf.proofs.Orders.{static_order}
use Rattle.mn_vrf.proofs.Keeping.{alike_prefix}

less : (p q : AddressBlock) → by_address_then_length p q ≡ Less → prefix_before p q ≡ true
less p q h = grind (arith, nat_tests, h)

equal : (p q : AddressBlock) → by_address_then_length p q ≡ Equal → prefix_before p q ≡ false
equal p q h = grind (arith, nat_tests, h)

greater : (p q : AddressBlock) → by_address_then_length p q ≡ Greater → prefix_before q p ≡ true
greater p q h = grind (arith, nat_tests, h)

pub by_prefix : Goes by_address_then_length static_before (λ (x : Static). x.prefix)
by_prefix = record {
  order = static_order;
  less = λ x y h. less x.prefix y.prefix h;
  equal = λ x y h. equal x.prefix y.prefix h;
  greater = λ x y h. greater x.prefix y.prefix h;
  same = λ p q h. same_exact p q (sym (alike_prefix p q) ∙ ap is_eq h);
}
