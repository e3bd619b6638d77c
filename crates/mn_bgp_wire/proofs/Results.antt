-- What is behind a result that is Ok.
use Rattle.std.proofs.Common.{◌≡◌, ◌||◌, not, Bool, true, false, cond, Option, Some, None, Result, Ok, Err, refl, ap}
use Rattle.std.specs.Option.{option_map}
use Rattle.mn_vpn_nlri.specs.declared.refusal.NlriBad.{NlriBad}
use Rattle.mn_bgp_wire.specs.declared.refusal.BgpWireBad.{BgpWireBad}
use Rattle.mn_bgp_wire.specs.Reading.{or_else, after, in_attribute}
pub use Rattle.mn_base.proofs.Bools.{not_false, or_off as or_no}
pub use Rattle.mn_base.proofs.Bools.{and_parts as and_true}

abbrev pub done : {X : Type 0} → X → Result X BgpWireBad
done x = Ok x

abbrev pub refused : {X : Type 0} → BgpWireBad → Result X BgpWireBad
refused bad = Err bad

pub done_is : {X : Type 0} (x y : X) → done x ≡ done y → x ≡ y
done_is x y e = cc

pub after_ok : {X Y : Type 0} (r : Result X BgpWireBad) (f : X → Result Y BgpWireBad) (y : Y) → after r f ≡ Ok y → (x : X) × (r ≡ Ok x) × (f x ≡ Ok y)
after_ok (Ok x) f y e = (x, refl, e)
after_ok (Err bad) f y e = absurd cc

pub guard_ok : {X : Type 0} (b : Bool) (bad : BgpWireBad) (r : Result X BgpWireBad) (y : X) → cond b (Err bad) r ≡ Ok y → (b ≡ false) × (r ≡ Ok y)
guard_ok true bad r y e = absurd cc
guard_ok false bad r y e = (refl, e)

pub or_else_ok : {X : Type 0} (bad : BgpWireBad) (o : Option X) (x : X) → or_else bad o ≡ Ok x → o ≡ Some x
or_else_ok bad None x e = absurd cc
or_else_ok bad (Some z) x e = ap Some (done_is z x e)

pub in_attribute_ok : {X : Type 0} (r : Result X NlriBad) (x : X) → in_attribute r ≡ Ok x → r ≡ Ok x
in_attribute_ok (Ok z) x e = let s = done_is z x e in ap Ok s
in_attribute_ok (Err bad) x e = absurd cc

pub map_some : {X Y : Type 0} (f : X → Y) (o : Option X) (y : Y) → option_map f o ≡ Some y → (x : X) × (o ≡ Some x) × (f x ≡ y)
map_some f None y e = absurd cc
map_some f (Some x) y e = (x, refl, cc)

pub both_true : (p q : Bool) → (not p || not q) ≡ false → (p ≡ true) × (q ≡ true)
both_true true true e = (refl, refl)
both_true true false e = absurd cc
both_true false q e = absurd cc
