-- Exports stand in the order of their prefixes, as the statics do.
use Rattle.std.proofs.Common.{ℕ, ◌≡◌, true, Bool, List, [], ◌∷◌, ◌++◌, Option, Some, None}
use Rattle.std.specs.List.{flat_map, AllByRecursion}
use Rattle.mn_base.specs.declared.numbers.Rt.{Rt}
use Rattle.mn_prefix.specs.Prefix.{AddressBlock, prefix_before}
use Rattle.mn_base.specs.Ordered.{Ascends}
use Rattle.mn_base.proofs.Places.{all_append}
use Rattle.mn_vrf.specs.Vrf.{Static, VrfState, static_before}
use Rattle.mn_pe.specs.Edge.{Edge}
use Rattle.mn_pe.specs.Held.{Exported, site_label, export_at}

-- by prefix
abbrev pub export_before : Exported → Exported → Bool
export_before x y = prefix_before x.prefix y.prefix

from_static : (vrf : VrfState) (targets : List Rt) (static : Static) (o : Option ℕ) (P : AddressBlock → Type 0) → P static.prefix →
    AllByRecursion (λ (x : Exported). P x.prefix) (export_at vrf targets static o)
from_static vrf targets static None P h = tt
from_static vrf targets static (Some label) P h = (h, tt)

one_static : (vrf : VrfState) (targets : List Rt) (static : Static) (o : Option ℕ) (rest : List Exported) →
    AllByRecursion (λ (x : Exported). prefix_before static.prefix x.prefix ≡ true) rest → Ascends export_before rest →
    Ascends export_before (export_at vrf targets static o ++ rest)
one_static vrf targets static None rest h up = up
one_static vrf targets static (Some label) rest h up = (h, up)

all_from : (edge : Edge) (vrf : VrfState) (targets : List Rt) (P : AddressBlock → Type 0) (xs : List Static) →
    AllByRecursion (λ (x : Static). P x.prefix) xs → AllByRecursion (λ (x : Exported). P x.prefix)
    (flat_map (λ static. export_at vrf targets static (site_label edge static.site)) xs)
all_from edge vrf targets P [] h = tt
all_from edge vrf targets P (x ∷ xs) h =
    all_append (λ (y : Exported). P y.prefix) (export_at vrf targets x (site_label edge x.site))
    (flat_map (λ static. export_at vrf targets static (site_label edge static.site)) xs)
    (from_static vrf targets x (site_label edge x.site) P h.0) (all_from edge vrf targets P xs h.1)

pub present_ascends : (edge : Edge) (vrf : VrfState) (targets : List Rt) (xs : List Static) → Ascends static_before xs →
    Ascends export_before (flat_map (λ static. export_at vrf targets static (site_label edge static.site)) xs)
present_ascends edge vrf targets [] up = tt
present_ascends edge vrf targets (x ∷ xs) up =
    one_static vrf targets x (site_label edge x.site) (flat_map (λ static. export_at vrf targets static (site_label edge static.site)) xs)
    (all_from edge vrf targets (λ p. prefix_before x.prefix p ≡ true) xs up.0) (present_ascends edge vrf targets xs up.1)
