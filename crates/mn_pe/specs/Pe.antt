-- What contracts see of an edge with its held routes, and when it is sound. RFC 4364, sections 4.3 and 5.
use Rattle.std.specs.Prelude.{ℕ, ◌^◌, ◌≤◌, ◌≡◌, ◌≢◌, ◌<◌, nat_lt, Bool, true, false, cond, List, [], ◌∷◌, map, length, slice_index_or, Option, None}
use Rattle.std.specs.Prelude.{if◌then◌else◌, ◌==◌}
use Rattle.std.specs.List.{AllByRecursion}
use Rattle.mn_base.specs.declared.numbers.Rd.{Rd}
use Rattle.mn_base.specs.declared.numbers.Rt.{Rt}
use Rattle.mn_base.specs.declared.numbers.VrfNo.{VrfNo}
use Rattle.mn_prefix.specs.Prefix.{AddressBlock}
use Rattle.mn_vpn_nlri.specs.declared.message.VpnRoute.{VpnRoute}
use Rattle.mn_base.specs.Ordered.{Ascends, with_one, without_one}
use Rattle.mn_rib_in.specs.Heard.{Heard, heard_before}
use Rattle.mn_targets.specs.Targets.{meet}
use Rattle.mn_vrf.specs.declared.source.Source.{Source}
use Rattle.mn_vrf.specs.Routes.{route_before}
use Rattle.mn_vrf.specs.Vrf.{Static, VrfState, Holding, static_before}
use Rattle.mn_vrf.specs.declared.refusal.VrfBad.{VrfBad}
use Rattle.mn_vrf.specs.declared.refusal.VrfBad.TheVariants.{NoMemory}
use Rattle.mn_pe.specs.Edge.{Edge, heard_of_peer}
use Rattle.mn_pe.specs.Held.{held_by, far_over}

-- an edge, and whether it ran out of memory
pub record PeNow : Type 0 where
  pub edge : Edge
  pub failed : Bool

-- what the edge was told, of VRFs that hold routes
abbrev pub edge_of : List Holding → List VrfNo → List (Option ℕ) → List ℕ → List (List Heard) → Edge
edge_of holdings sites labels loopbacks heard =
    record { vrfs = map (λ (holding : Holding). holding.vrf) holdings; sites = sites; labels = labels; loopbacks = loopbacks; heard = heard }

-- labels have 20 bits: RFC 3032, section 2.1
abbrev pub HaveLabels : List Heard → Type 0
HaveLabels routes = AllByRecursion (λ (route : Heard). route.label < 2 ^ 20) routes

-- and so have those of routes that are announced: RFC 8277, section 2.2
abbrev pub AreLabelled : List VpnRoute → Type 0
AreLabelled routes = AllByRecursion (λ (route : VpnRoute). route.label < 2 ^ 20) routes

-- each VRF holds the routes that it is to hold
abbrev pub AllHold : Edge → List Holding → Type 0
AllHold edge holdings = AllByRecursion (λ (holding : Holding). holding.held ≡ held_by edge holding.vrf) holdings

-- a VRF's statics are over its own sites
abbrev pub AreAtHome : List VrfNo → VrfState → Type 0
AreAtHome sites vrf = AllByRecursion (λ (static : Static). (slice_index_or sites static.site (record { 0 = 0 })).0 ≡ vrf.number) vrf.statics

-- the edge's lists stand in their orders, what was received has labels, and no two nodes have one loopback
pub record InOrder (edge : Edge) : Type 0 where
  pub few : length edge.heard ≤ 65536  -- nodes are numbered by two bytes
  pub statics : AllByRecursion (λ (vrf : VrfState). Ascends static_before vrf.statics) edge.vrfs
  pub vrfs : Ascends (λ (u w : VrfState). nat_lt u.number w.number) edge.vrfs
  pub homes : AllByRecursion (AreAtHome edge.sites) edge.vrfs
  pub heard : AllByRecursion (Ascends heard_before) edge.heard
  pub labels : AllByRecursion HaveLabels edge.heard
  pub loopbacks : (j k : ℕ) → j ≢ k → j < length edge.heard → k < length edge.heard → slice_index_or edge.loopbacks j 0 ≢ slice_index_or edge.loopbacks k 0

pub record IsSound (edge : Edge) (holdings : List Holding) : Type 0 where
  pub order : InOrder edge
  pub held : AllHold edge holdings

-- a VRF holds a route of these targets if it imports one of them, and else nothing in its place
abbrev pub taking : AddressBlock × Source → List Rt → Holding → Holding
taking route targets holding =
    record holding {
      held =
          cond (meet targets holding.vrf.imports) (with_one route_before route holding.held) (without_one route_before route holding.held);
    }

-- the same where it holds nothing in the place of the route
abbrev pub offering : AddressBlock × Source → List Rt → Holding → Holding
offering route targets holding = record holding { held = cond (meet targets holding.vrf.imports) (with_one route_before route holding.held) holding.held }

-- it holds nothing in the place of a route
abbrev pub giving : AddressBlock × Source → Holding → Holding
giving route holding = record holding { held = without_one route_before route holding.held }

-- a peer's route, as VRFs hold it
abbrev pub far_route : ℕ → ℕ → Rd → AddressBlock → ℕ → AddressBlock × Source
far_route loopback peer rd prefix label = (prefix, far_over loopback rd.0 peer label)

-- these are an edge's holdings, and what it received from a peer of this loopback
pub record AreOfEdge (holdings : List Holding) (heard : List Heard) (loopback peer : ℕ) : Type 0 where
  pub edge : Edge
  pub below : peer < length edge.heard
  pub same : map (λ (holding : Holding). holding.vrf) holdings ≡ edge.vrfs
  pub sound : IsSound edge holdings
  pub heard_is : heard_of_peer edge peer ≡ heard
  pub loopback_is : loopback ≡ slice_index_or edge.loopbacks peer 0

-- as a peer's routes are withdrawn, one after another
abbrev pub after_giving : ℕ → ℕ → List Holding → List VpnRoute → List Holding
after_giving loopback peer holdings [] = holdings
after_giving loopback peer holdings (route ∷ routes) =
    after_giving loopback peer (map (giving (far_route loopback peer route.rd route.prefix 0)) holdings) routes

-- and as they are announced
abbrev pub after_taking : ℕ → ℕ → List Rt → List Holding → List VpnRoute → List Holding
after_taking loopback peer targets holdings [] = holdings
after_taking loopback peer targets holdings (route ∷ routes) =
    after_taking loopback peer targets (map (taking (far_route loopback peer route.rd route.prefix route.label) targets) holdings) routes

-- as all that was received from a peer is forgotten
abbrev pub after_forgetting : ℕ → ℕ → List Holding → List Heard → List Holding
after_forgetting loopback peer holdings [] = holdings
after_forgetting loopback peer holdings (route ∷ routes) =
    after_forgetting loopback peer (map (giving (far_route loopback peer route.rd route.prefix 0)) holdings) routes

-- of the VRF of this number, if it is one of these
abbrev pub numbered : {A : Type 0} → ℕ → (Holding → Option A) → List Holding → Option A
numbered v f [] = None
numbered v f (holding ∷ holdings) = if holding.vrf.number == v then f holding else numbered v f holdings

abbrev pub found_in : {A : Type 0} → ℕ → (VrfState → Option A) → List VrfState → Option A
found_in v f [] = None
found_in v f (vrf ∷ vrfs) = if vrf.number == v then f vrf else found_in v f vrfs

-- VRFs stand in the order of their numbers
abbrev pub by_number : VrfState → VrfState → Bool
by_number u w = nat_lt u.number w.number

-- what VRFs were told
abbrev pub told : List Holding → List VrfState
told holdings = map (λ (holding : Holding). holding.vrf) holdings

-- none of the VRFs has this number
abbrev pub IsAbsent : ℕ → List Holding → Type 0
IsAbsent v holdings = (k : ℕ) (d : Holding) → k < length holdings → (slice_index_or holdings k d).vrf.number ≢ v

-- the VRF at this place has this number
pub record IsAt (v : ℕ) (holdings : List Holding) (at : ℕ) : Type 0 where
  pub there : at < length holdings
  pub is : (d : Holding) → (slice_index_or holdings at d).vrf.number ≡ v

-- a refusal is because memory ran out
abbrev pub is_want : VrfBad → Bool
is_want NoMemory = true
is_want _ = false
