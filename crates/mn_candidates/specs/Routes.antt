-- The routes of a VRF, whatever is down or switched off, and those of them for an address.
use Rattle.std.specs.Prelude.{ℕ, ◌≡◌, ◌==◌, true, if◌then◌else◌, List, [], map, filter, length}
use Rattle.std.specs.List.{flat_map, Contains, range_with_len}
use Rattle.mn_prefix.specs.Prefix.{AddressBlock}
use Rattle.mn_topo.specs.Network.{Network}
use Rattle.mn_topo.specs.Homes.{vrf_at, site_at, vrf_of, edge_of, home_of}
use Rattle.mn_ledger.specs.Places.{loopback}
use Rattle.mn_ledger.specs.Held as held
use Rattle.mn_ledger.specs.Held.{HeldRoute}
use Rattle.mn_ledger.specs.Eligible.{covers}
use Rattle.mn_reach_laws.specs.Candidates.{AreInPreference}
use Rattle.mn_candidates.specs.declared.route.Source.{Source}
use Rattle.mn_candidates.specs.declared.route.Source.TheVariants.{Own, Near, Far}
use Rattle.mn_candidates.specs.declared.route.Route.{Route}
use Rattle.mn_candidates.specs.Pairs.{takes_from}

-- 1. The routes of a VRF

-- a route as the ledger has it; each site is attached by its first attachment
abbrev pub source_in : Source → held.Source
source_in Own = held.Own
source_in (Near v) = held.Near v.0
source_in (Far address rd) = held.Far address rd.0

abbrev pub held_as : Route → HeldRoute
held_as route = record { prefix = route.prefix; source = source_in route.source; edge = route.edge.0; site = route.site.0; attachment = 1 }

-- from where a VRF has the routes of another: RFC 4364, sections 4.3.2 and 4.3.6
abbrev pub source_of : Network → ℕ → ℕ → held.Source
source_of topology v other =
    if other == v then held.Own
    else if edge_of topology other == edge_of topology v then held.Near other
    else held.Far (loopback topology (edge_of topology other)) (vrf_at topology other).rd.0

abbrev pub route_over : Network → ℕ → ℕ → AddressBlock → HeldRoute
route_over topology v s prefix = record {
  prefix = prefix;
  source = source_of topology v (vrf_of topology s);
  edge = home_of topology s;
  site = s;
  attachment = 1;
}

-- one for each prefix of a site whose routes the VRF takes
abbrev pub routes_over : Network → ℕ → ℕ → List HeldRoute
routes_over topology v s =
    if takes_from topology v (vrf_of topology s) then map (route_over topology v s) (site_at topology s).prefixes else []

-- of all sites
abbrev pub routes_for : Network → ℕ → List HeldRoute
routes_for topology v = flat_map (routes_over topology v) (range_with_len 0 (length topology.sites))

-- 2. Those for an address

-- of these routes those that contain the address, as many as there are, none better than one before it
pub record AreFor (address : ℕ) (routes found : List HeldRoute) : Type 0 where
  pub only : (route : HeldRoute) → Contains found route → Contains routes route × (covers address route ≡ true)
  pub all : (route : HeldRoute) → Contains routes route → covers address route ≡ true → Contains found route
  pub each : length found ≡ length (filter (covers address) routes)
  pub ordered : AreInPreference found
