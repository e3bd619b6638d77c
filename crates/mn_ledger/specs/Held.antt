-- Which routes a VRF holds, and which of them is best for an address: RFC 4364, sections 4.2, 4.3 and 5, and RFC 4271, section 9.1.
use Rattle.std.specs.Prelude.{ℕ, ◌+◌, ◌==◌, ◌&&◌, ◌||◌, Bool, true, false, not, nat_lt, if◌then◌else◌, List, [], ◌∷◌, ◌++◌, map, take}
use Rattle.std.specs.Prelude.{filter, Option, Some, None}
use Rattle.std.specs.List.{flat_map, list_any}
use Rattle.mn_topo.specs.Prefix.{AddressBlock, contains}
use Rattle.mn_topo.specs.Network.{Network}
use Rattle.mn_ledger.specs.Places.{loopback, vrf_at, edges}
use Rattle.mn_ledger.specs.World.{Config, Export, Telling, Announcement, Withdrawal, Peerings}
use Rattle.mn_ledger.specs.Exports.{meet, present_with, exports_of}
use Rattle.mn_ledger.specs.Bgp.{peers_live, is_for}

-- where a route comes from, first the one that is preferred among routes of one prefix
pub data Source : Type 0 where
  Own : Source
  Near : (vrf : ℕ) → Source
  Far : (loopback : ℕ) → (rd : ℕ) → Source

-- the one source is preferred to the other: an own static; then another VRF of the edge, by number; then another edge, by
-- address and then by route distinguisher
abbrev pub is_preferred : Source → Source → Bool
is_preferred Own Own = false
is_preferred Own _ = true
is_preferred (Near v) Own = false
is_preferred (Near v) (Near other) = nat_lt v other
is_preferred (Near v) (Far address rd) = true
is_preferred (Far address rd) (Far other other_rd) = nat_lt address other || ((address == other) && nat_lt rd other_rd)
is_preferred (Far address rd) _ = false

-- a route that a VRF holds: behind this attachment of a site of an edge
pub record HeldRoute : Type 0 where
  pub prefix : AddressBlock
  pub source : Source
  pub edge : ℕ
  pub site : ℕ
  pub attachment : ℕ

abbrev pub held_by : ℕ → Source → Export → HeldRoute
held_by edge source export = record { prefix = export.prefix; source = source; edge = edge; site = export.site; attachment = export.attachment }

-- its own statics of attached sites
abbrev pub own_routes : Network → Config → ℕ → ℕ → List HeldRoute
own_routes topology config edge v = map (held_by edge Own) (present_with topology config v [])

-- those whose targets meet the VRF's import set as it is now
abbrev pub imported : Config → ℕ → List Export → List Export
imported config v exports = filter (λ export. meet export.targets (config.imports v)) exports

-- the exports of the edge's other VRFs: RFC 4364, section 4.3.6
abbrev pub near_routes : Network → Config → ℕ → ℕ → List HeldRoute
near_routes topology config edge v =
    map (λ export. held_by edge (Near export.vrf) export) (imported config v (filter (λ export. not (export.vrf == v)) (exports_of topology config edge)))

-- of each VRF and prefix the last mention, where it is an announcement
abbrev pub believed_after : List Export → Telling → List Export
believed_after exports (Announcement export) = filter (λ other. not (is_for export.vrf export.prefix other)) exports ++ export ∷ []
believed_after exports (Withdrawal v prefix) = filter (λ other. not (is_for v prefix other)) exports
believed_after exports _ = exports

abbrev pub believed_from : List Export → List Telling → List Export
believed_from exports [] = exports
believed_from exports (telling ∷ tellings) = believed_from (believed_after exports telling) tellings

-- what an edge has received from a peer in the session's present life
abbrev pub heard_of : Peerings → ℕ → ℕ → List Telling
heard_of peerings edge peer = take (peerings.heard edge peer) (peerings.told peer edge)

abbrev pub believed : Config → Peerings → ℕ → ℕ → List Export
believed config peerings edge peer = if peers_live config edge peer then believed_from [] (heard_of peerings edge peer) else []

-- the routes that a peer announced
abbrev pub far_routes : Network → Config → Peerings → ℕ → ℕ → ℕ → List HeldRoute
far_routes topology config peerings edge v peer =
    map (λ export. held_by peer (Far (loopback topology peer) (vrf_at topology export.vrf).rd.0) export)
    (imported config v (believed config peerings edge peer))

-- the routes that a VRF of an edge holds
unfoldable pub held : Network → Config → Peerings → ℕ → ℕ → List HeldRoute
held topology config peerings edge v =
    own_routes topology config edge v
    ++ (near_routes topology config edge v
    ++ flat_map (far_routes topology config peerings edge v) (filter (λ peer. not (peer == edge)) (edges topology)))

-- the one is longer, or as long and of a source that is preferred
abbrev pub is_better : HeldRoute → HeldRoute → Bool
is_better route other =
    nat_lt other.prefix.length route.prefix.length || ((route.prefix.length == other.prefix.length) && is_preferred route.source other.source)

-- the routes whose prefix contains the address
abbrev pub matching : ℕ → List HeldRoute → List HeldRoute
matching address routes = filter (λ route. contains route.prefix address) routes

-- of these, one that no other is better than: RFC 1812, section 5.2.4.3. Whether a route takes part to whose edge no label path
-- leads is for `eligible` to say.
abbrev pub unbeaten : List HeldRoute → List HeldRoute
unbeaten routes = filter (λ route. not (list_any (λ other. is_better other route) routes)) routes

abbrev pub first_of : List HeldRoute → Option HeldRoute
first_of [] = None
first_of (route ∷ routes) = Some route

abbrev pub best : List HeldRoute → ℕ → Option HeldRoute
best routes address = first_of (unbeaten (matching address routes))
