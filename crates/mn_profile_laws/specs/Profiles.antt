-- A network as a profile has it: what its links cost, and whether next hops are resolved by labels.
use Rattle.std.specs.Prelude.{ℕ, Bool, true, false, if◌then◌else◌, List, map}
use Rattle.mn_wiring.specs.declared.links.LinkEnds.{LinkEnds}
use Rattle.mn_wiring.specs.Wiring.{link, links_of}
use Rattle.mn_topo.specs.Network.{Network, wiring_of}
use Rattle.mn_ledger.specs.World.{Config}
use Rattle.mn_profile.specs.declared.switches.EqualCost.TheVariants as equal_cost
use Rattle.mn_profile.specs.declared.switches.Resolve.{Resolve}
use Rattle.mn_profile.specs.declared.switches.Resolve.TheVariants.{AsTopology, Never, ByRoute, ByLabel}
use Rattle.mn_profile.specs.declared.switches.LabelMode.TheVariants as label_mode
use Rattle.mn_profile.specs.declared.switches.Profile.{Profile}

-- the choices of a run: of equal costs the neighbour of least number, next hops resolved as the topology says, no synchronization, a
-- VPN label for each site
abbrev pub of_run : Profile
of_run = record { equal = equal_cost.Least; resolve = AsTopology; sync = false; labels = label_mode.PerSite }

-- the same, with next hops resolved so, and synchronized or not: each node has one next hop
abbrev pub of_one_hop : Resolve → Bool → Profile
of_one_hop resolve sync = record of_run { resolve = resolve; sync = sync }

-- the same, where each node has taken one of its next hops and nobody knows which
abbrev pub of_any_hop : Resolve → Bool → Profile
of_any_hop resolve sync = record of_run { equal = equal_cost.Any; resolve = resolve; sync = sync }

-- 1. Costs: LDP-IGP synchronization

-- what a link costs at most, LSInfinity of OSPF: RFC 5443, section 2
abbrev pub most_cost : ℕ
most_cost = 65535

-- it costs so much where LDP isn't on
abbrev pub with_ldp : Bool → LinkEnds → LinkEnds
with_ldp true ends = ends
with_ldp false ends = record ends { cost = most_cost }

abbrev pub synchronized : Network → Config → List LinkEnds
synchronized topology config = map (λ l. with_ldp (config.ldp_on l) (link (wiring_of topology) l)) (links_of (wiring_of topology))

-- 2. Resolution by labels: RFC 4271, section 9.1.2.1

-- whether a route takes part only where labels lead to its edge, if the topology says so or doesn't
abbrev pub resolves : Resolve → Bool → Bool
resolves AsTopology said = said
resolves Never said = false
resolves ByRoute said = false
resolves ByLabel said = true

-- whether links that lead to its edge are enough
abbrev pub asks_links : Resolve → Bool
asks_links AsTopology = false
asks_links Never = false
asks_links ByRoute = true
asks_links ByLabel = false

-- 3. The network

-- with these costs, and as if the topology said so
abbrev pub network_under : Network → Profile → Config → Network
network_under topology profile config = record topology {
  links = if profile.sync then synchronized topology config else topology.links;
  resolve = resolves profile.resolve topology.resolve;
}
