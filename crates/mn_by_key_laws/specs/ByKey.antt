-- Values that tell their own keys, in an ordered map.
use Rattle.std.specs.Prelude.{◌≡◌, Bool, true, false, List}
use Rattle.std.specs.declared.cmp.Ordering.{Ordering}
use Rattle.std.specs.declared.cmp.Ordering.TheVariants.{Less, Equal, Greater}
use Rattle.std.specs.List.{AllByRecursion}
use Rattle.std.specs.Map.{values_of}
use Rattle.mn_base.specs.Ordered.{Ascends, IsOrder}

-- values go by the order of their keys, and keys that compare as equal are the same
pub record Goes {K A : Type 0} (cmp : K → K → Ordering) (before : A → A → Bool) (key : A → K) : Type 0 where
  pub order : IsOrder before
  pub less : (x y : A) → cmp (key x) (key y) ≡ Less → before x y ≡ true
  pub equal : (x y : A) → cmp (key x) (key y) ≡ Equal → before x y ≡ false
  pub greater : (x y : A) → cmp (key x) (key y) ≡ Greater → before y x ≡ true
  pub same : (k l : K) → cmp k l ≡ Equal → k ≡ l

-- each value stands at its key, and they ascend
pub record AreByKey {K A : Type 0} (before : A → A → Bool) (key : A → K) (entries : List (K × A)) : Type 0 where
  pub each : AllByRecursion (λ e. e.0 ≡ key e.1) entries
  pub ascend : Ascends before (values_of entries)
