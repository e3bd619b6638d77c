-- What VRFs hold, as routes come and go one after another: RFC 4364, section 4.3.
use Rattle.std.specs.Prelude.{◌≡◌, ℕ, ◌==◌, Bool, true, false, cond, if◌then◌else◌, List, [], ◌∷◌, map, slice_index_or, Option, None, Some, Result, OnOk, OnErr}
use Rattle.std.specs.List.{flat_map}
use Rattle.mn_base.specs.Ordered.{with_one, without_one}
use Rattle.mn_prefix.specs.Prefix.{AddressBlock}
use Rattle.mn_targets.specs.Targets.{meet}
use Rattle.mn_vrf.specs.declared.source.Source.{Source}
use Rattle.mn_vrf.specs.Routes.{route_before}
use Rattle.mn_vrf.specs.declared.refusal.VrfBad.{VrfBad}
use Rattle.mn_vrf.specs.Vrf.{Static, VrfState, Holding, refusal_of}
use Rattle.mn_pe.specs.Held.{own_over, near_over}
use Rattle.mn_pe.specs.Pe.{found_in, told}
use Rattle.mn_pe.specs.Switched.{IsBy}

-- a route comes into its place, or its place is left empty
pub data Change : Type 0 where
  Comes : (route : AddressBlock × Source) → Change
  Goes : (route : AddressBlock × Source) → Change

abbrev pub change_of : Bool → AddressBlock × Source → Change
change_of true route = Comes route
change_of false route = Goes route

-- one after another
abbrev pub changed : List Change → List (AddressBlock × Source) → List (AddressBlock × Source)
changed [] held = held
changed (Comes route ∷ changes) held = changed changes (with_one route_before route held)
changed (Goes route ∷ changes) held = changed changes (without_one route_before route held)

abbrev pub with_changes : List Change → Holding → Holding
with_changes changes holding = record holding { held = changed changes holding.held }

-- what a static of the VRF of a number changes in a VRF: it is the VRF's own, or another's whose targets it imports
abbrev pub spread_by : ℕ → Bool → Bool → Static → VrfState → List Change
spread_by teller meets on static vrf =
    if vrf.number == teller then change_of on (static.prefix, own_over static.site) ∷ []
    else if meets then change_of on (static.prefix, near_over teller static.site) ∷ []
    else []

abbrev pub spread_to : VrfState → Bool → Static → VrfState → List Change
spread_to teller on static vrf = spread_by teller.number (meet teller.exports vrf.imports) on static vrf

abbrev pub spreading : VrfState → Bool → Static → Holding → Holding
spreading teller on static holding = with_changes (spread_to teller on static holding.vrf) holding

-- what some statics change, one after another
abbrev pub spread_over : VrfState → Bool → List Static → VrfState → List Change
spread_over teller on statics vrf = flat_map (λ static. spread_to teller on static vrf) statics

-- the VRF of a number is told something
abbrev pub telling : ℕ → (VrfState → VrfState) → Holding → Holding
telling v change holding = cond (holding.vrf.number == v) (record holding { vrf = change holding.vrf }) holding

-- the static, if its site has a label
abbrev pub present_of : Option ℕ → Static → List Static
present_of None static = []
present_of (Some label) static = static ∷ []

-- A static of the VRF of this number came to all VRFs, or went; without such a VRF nothing is changed.
abbrev pub IsSpread : List (Option ℕ) → ℕ → Bool → Static → List Holding → List Holding → Type 0
IsSpread labels v on static old new =
    IsBy v (λ (teller : VrfState) (h : Holding). with_changes (spread_over teller on (present_of (slice_index_or labels static.site None) static) h.vrf) h)
    old new

-- The VRF of this number was told something that is refused in these cases; a refusal changes nothing.
pub record IsTelling (v : ℕ) (change : VrfState → VrfState) (refused : VrfState → Option VrfBad) (old new : List Holding) (result : Result (Unit {0}) VrfBad) :
    Type 0 where
  pub ok : OnOk result (new ≡ map (telling v change) old)
  pub err : OnErr result (new ≡ old)
  pub refusal : refusal_of result ≡ found_in v refused (told old)
