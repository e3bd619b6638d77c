-- It arrives: a packet that is sent in a settled network, with a route and TTL enough, while only packets move.
use Rattle.std.specs.Prelude.{◌≡◌, ◌≤◌, ◌<◌, ℕ, ◌+◌, true, false, None, List, [], length, take, drop}
use Rattle.std.specs.List.{Contains}
use Rattle.mn_topo.specs.Network.{Network}
use Rattle.mn_topo.specs.declared.steps.JournalEntry.{JournalEntry}
use Rattle.mn_ipv4.specs.Header.{ttl_of, destination_of}
use Rattle.mn_ledger.specs.Entry.{first_rule}
use Rattle.mn_ledger.specs.Eligible.{covers}
use Rattle.mn_ledger.specs.Places.{home_of}
use Rattle.mn_ledger.specs.World.{World}
use Rattle.mn_ledger.specs.Held.{HeldRoute, is_better}
use Rattle.mn_ledger.specs.Packets.{Packets, entry_rules}
use Rattle.mn_ledger.specs.Ledger.{packets_of}
use Rattle.mn_ledger.specs.Settled.{IsSteady}
use Rattle.mn_ledger_laws.specs.Accounts.{world_at, packets_at, Sending, IsSent, routes_at}
use Rattle.mn_settled_laws.specs.Ways.{Reaches}
use Rattle.mn_settled_laws.specs.Arrival.{IsAddressed, HasArrived, IsLeastWay, route_to}

-- the packet is sent in a steady stretch, from one place of the journal up to another: the network is settled as the stretch
-- begins, only packets move in it, and no frame flies after it
pub record IsSentInSteadyStretch (topology : Network) (entries : List JournalEntry) (inputs : List (List ℕ)) (sending : Sending) (from to : ℕ) : Type 0 where
  pub sent : IsSent entries inputs sending
  pub since : from ≤ sending.place
  pub until : sending.place < to
  pub steady : IsSteady topology (take from entries) (drop from (take to entries))
  pub landed : (channel : ℕ) → (packets_at topology entries inputs to).flying channel ≡ []

-- the packet is addressed to this route, the best of its VRF; the route's edge is reached over links that are up; and the TTL is
-- at least the links of the way there and 2
pub record HasAWay (topology : Network) (world : World) (sending : Sending) (route : HeldRoute) : Type 0 where
  pub addressed : IsAddressed topology world sending.site sending.bytes route
  pub reached : Reaches topology world (home_of topology sending.site) route.edge
  pub lives : length (route_to topology world sending.site route) + 1 ≤ ttl_of sending.bytes

-- it was delivered at the route's site with its TTL less by the nodes of the way, was at each of these, and no way costs less
pub record ReachesItsSite (topology : Network) (world : World) (packets : Packets) (sending : Sending) (route : HeldRoute) : Type 0 where
  pub arrived : HasArrived topology world packets sending.packet sending.site sending.bytes route
  pub least : IsLeastWay topology world (home_of topology sending.site) route.edge (route_to topology world sending.site route)

-- each packet that is sent so has arrived, and the rest of the journal doesn't change it
abbrev pub ItArrives : Network → List JournalEntry → List (List ℕ) → Type 0
ItArrives topology entries inputs =
    (sending : Sending) (from to : ℕ) (route : HeldRoute) →
    IsSentInSteadyStretch topology entries inputs sending from to →
    HasAWay topology (world_at topology entries from) sending route →
    ReachesItsSite topology (world_at topology entries from) (packets_of topology entries inputs) sending route

-- Where the topology resolves next hops

-- the site's VRF holds the route, it contains the packet's destination, and its edge is reached over links that are up
pub record IsInReach (topology : Network) (world : World) (sending : Sending) (route : HeldRoute) : Type 0 where
  pub is_held : Contains (routes_at topology world sending.site) route
  pub matches : covers (destination_of sending.bytes) route ≡ true
  pub reached : Reaches topology world (home_of topology sending.site) route.edge

-- no rule on its bytes drops the packet, some route is in reach, and its TTL is greater than the number of nodes by 2 at least
pub record MayArrive (topology : Network) (world : World) (sending : Sending) : Type 0 where
  pub passes : first_rule (entry_rules (world.config.attached sending.site) sending.bytes) ≡ None
  pub some : HeldRoute
  pub in_reach : IsInReach topology world sending some
  pub lives : length topology.loopbacks + 2 ≤ ttl_of sending.bytes

-- it reached the site of a route that is in reach, and none that is in reach is better
pub record ReachesASite (topology : Network) (world : World) (packets : Packets) (sending : Sending) : Type 0 where
  pub route : HeldRoute
  pub in_reach : IsInReach topology world sending route
  pub best_in_reach : (other : HeldRoute) → IsInReach topology world sending other → is_better other route ≡ false
  pub reaches : ReachesItsSite topology world packets sending route

-- each packet that is sent so arrives at a site of one of the routes that are in reach
abbrev pub ArrivesWhereItCan : Network → List JournalEntry → List (List ℕ) → Type 0
ArrivesWhereItCan topology entries inputs =
    (sending : Sending) (from to : ℕ) → topology.resolve ≡ true →
    IsSentInSteadyStretch topology entries inputs sending from to →
    MayArrive topology (world_at topology entries from) sending →
    ReachesASite topology (world_at topology entries from) (packets_of topology entries inputs) sending
