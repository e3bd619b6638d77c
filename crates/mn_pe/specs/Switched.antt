-- Routes that come or go together, one after another, as a target comes to a set or leaves it: RFC 4364, section 4.3.1.
use Rattle.std.specs.Prelude.{ℕ, ◌≡◌, ◌==◌, ◌&&◌, not, Bool, true, false, cond, List, [], ◌∷◌, length, map, slice_index_or, Option, Some, None, if◌then◌else◌}
use Rattle.std.specs.List.{list_any, range_with_len}
use Rattle.mn_base.specs.declared.numbers.Rt.{Rt}
use Rattle.mn_prefix.specs.Prefix.{AddressBlock}
use Rattle.mn_base.specs.Ordered.{with_one, without_one}
use Rattle.mn_rib_in.specs.Heard.{Heard}
use Rattle.mn_targets.specs.Targets.{has_target, meet}
use Rattle.mn_vrf.specs.declared.source.Source.{Source}
use Rattle.mn_vrf.specs.Routes.{route_before}
use Rattle.mn_vrf.specs.Vrf.{Static, VrfState, Holding}
use Rattle.mn_pe.specs.Held.{own_over, near_over}
use Rattle.mn_pe.specs.Pe.{far_route, IsAbsent, IsAt}

-- one of the targets is imported that is another than this one
abbrev pub meet_else : Rt → List Rt → List Rt → Bool
meet_else target targets imports = list_any (λ (other : Rt). not (other.0 == target.0) && has_target other imports) targets

-- routes of these targets are imported by this one alone, where it is imported
abbrev pub meet_alone : Rt → List Rt → List Rt → Bool
meet_alone target targets imports = has_target target targets && not (meet_else target targets imports)

-- routes with this target are imported by it alone
abbrev pub import_alone : Rt → List Rt → List Rt → Bool
import_alone target targets imports = has_target target imports && not (meet_else target targets imports)

-- a route comes into its place, or its place is left empty
abbrev pub turned : Bool → AddressBlock × Source → List (AddressBlock × Source) → List (AddressBlock × Source)
turned true route held = with_one route_before route held
turned false route held = without_one route_before route held

-- the same, if its site has a label
abbrev pub turned_if : Bool → Option ℕ → AddressBlock × Source → List (AddressBlock × Source) → List (AddressBlock × Source)
turned_if on None route held = held
turned_if on (Some label) route held = turned on route held

-- statics of a VRF
abbrev pub after_statics : Bool → ℕ → List (Option ℕ) → List (AddressBlock × Source) → List Static → List (AddressBlock × Source)
after_statics on teller labels held [] = held
after_statics on teller labels held (static ∷ statics) =
    after_statics on teller labels (turned_if on (slice_index_or labels static.site None) (static.prefix, near_over teller static.site) held) statics

-- those of other VRFs whose targets are imported by this one alone
abbrev pub after_vrfs : Bool → Rt → List (Option ℕ) → ℕ → List Rt → List (AddressBlock × Source) → List VrfState → List (AddressBlock × Source)
after_vrfs on target labels number imports held [] = held
after_vrfs on target labels number imports held (vrf ∷ vrfs) =
    after_vrfs on target labels number imports
    (if not (vrf.number == number) && meet_alone target vrf.exports imports then after_statics on vrf.number labels held vrf.statics else held) vrfs

-- those received from a peer, and of all peers
abbrev pub after_heard : Bool → Rt → ℕ → ℕ → List Rt → List (AddressBlock × Source) → List Heard → List (AddressBlock × Source)
after_heard on target loopback peer imports held [] = held
after_heard on target loopback peer imports held (route ∷ routes) =
    after_heard on target loopback peer imports
    (if meet_alone target route.targets imports then turned on (far_route loopback peer route.rd route.prefix route.label) held else held) routes

abbrev pub after_all : Bool → Rt → List ℕ → List (List Heard) → List Rt → List (AddressBlock × Source) → List ℕ → List (AddressBlock × Source)
after_all on target loopbacks heard imports held [] = held
after_all on target loopbacks heard imports held (peer ∷ peers) =
    after_all on target loopbacks heard imports (after_heard on target (slice_index_or loopbacks peer 0) peer imports held (slice_index_or heard peer []))
    peers

-- the VRF of a number is changed
abbrev pub at_vrf : ℕ → (Holding → Holding) → Holding → Holding
at_vrf v change holding = cond (holding.vrf.number == v) (change holding) holding

-- a VRF as it imports the target, or no longer, at an edge with these VRFs
abbrev pub importing : Bool → Rt → List (Option ℕ) → List ℕ → List (List Heard) → List VrfState → Holding → Holding
importing on target labels loopbacks heard vrfs holding = record holding {
  held = after_all on target loopbacks heard holding.vrf.imports (after_vrfs on target labels holding.vrf.number holding.vrf.imports holding.held vrfs)
      (range_with_len 0 (length heard));
}

-- and as another VRF exports it, or no longer
abbrev pub telling_statics : Bool → List (Option ℕ) → VrfState → Holding → Holding
telling_statics on labels teller holding = record holding { held = after_statics on teller.number labels holding.held teller.statics }

abbrev pub exporting : Bool → Rt → List (Option ℕ) → VrfState → Holding → Holding
exporting on target labels teller holding =
    if not (holding.vrf.number == teller.number) && import_alone target teller.exports holding.vrf.imports then telling_statics on labels teller holding
    else holding

-- where a VRF holds a site's routes from, which are of this VRF: its own, or another's whose targets it imports
abbrev pub source_for : VrfState → VrfState → ℕ → Option Source
source_for vrf teller site =
    if vrf.number == teller.number then Some (own_over site) else if meet teller.exports vrf.imports then Some (near_over teller.number site) else None

-- statics over the site
abbrev pub after_over : Bool → ℕ → Source → List (AddressBlock × Source) → List Static → List (AddressBlock × Source)
after_over on site source held [] = held
after_over on site source held (static ∷ statics) =
    after_over on site source (if static.site == site then turned on (static.prefix, source) held else held) statics

abbrev pub turning_over : Bool → ℕ → VrfState → Option Source → Holding → Holding
turning_over on site teller None holding = holding
turning_over on site teller (Some source) holding = record holding { held = after_over on site source holding.held teller.statics }

-- a VRF as a site of this VRF gets a label, or loses it
abbrev pub attaching : Bool → ℕ → VrfState → Holding → Holding
attaching on site teller holding = turning_over on site teller (source_for holding.vrf teller site) holding

-- Each VRF was changed by the VRF of this number; without such a VRF nothing was.
pub data IsBy (v : ℕ) (change : VrfState → Holding → Holding) (old new : List Holding) : Type 0 where
  Nobody : IsAbsent v old → new ≡ old → IsBy v change old new
  ByVrf : (at : ℕ) → IsAt v old at → ((d : Holding) → new ≡ map (change (slice_index_or old at d).vrf) old) → IsBy v change old new
