-- What becomes of a packet that is sent in a settled network and then carried on: it goes along the route and arrives.
use Rattle.std.specs.Prelude.{◌≡◌, ◌≢◌, ℕ, ◌-◌, List, [], ◌∷◌, length, slice_index_or, Some, None}
use Rattle.mn_wiring.specs.Wiring.{across}
use Rattle.mn_topo.specs.Network.{Network, wiring_of}
use Rattle.mn_topo.specs.declared.steps.JournalEntry.{JournalEntry}
use Rattle.mn_ledger.specs.declared.verdict.Verdict.TheVariants.{Delivered}
use Rattle.mn_ipv4.specs.Header.{ttl_of, destination_of}
use Rattle.mn_ledger.specs.Entry.{first_rule}
use Rattle.mn_ledger.specs.Places.{home_of, vrf_of}
use Rattle.mn_ledger.specs.World.{World}
use Rattle.mn_ledger.specs.Held.{HeldRoute, best}
use Rattle.mn_ledger.specs.Eligible.{eligible}
use Rattle.mn_ledger.specs.Packets.{Packets, entry_rules}
use Rattle.mn_ledger.specs.Verdicts.{verdict_on}
use Rattle.mn_ledger.specs.Ledger.{left_by}
use Rattle.mn_ledger.specs.Settled.{route}
use Rattle.mn_wiring.specs.Paths.{walk_end, cost_of, IsLeast}
use Rattle.mn_settled_laws.specs.Ways.{links_up, way}

-- the packets that are left once these entries have taken theirs
abbrev pub left_after : List JournalEntry → List (List ℕ) → List (List ℕ)
left_after [] inputs = inputs
left_after (entry ∷ entries) inputs = left_after entries (left_by entry.step inputs)

-- from a node these are the next hops, one after another, up to the last, which is the node that is meant
abbrev pub GoesBy : Network → World → List ℕ → ℕ → ℕ → Type 0
GoesBy topology world [] node to = node ≡ to
GoesBy topology world (hop ∷ hops) node to =
    (node ≢ to) × (l : ℕ) × (way topology world node to ≡ Some (hop, l)) × (hop ≡ across (wiring_of topology) l node) × GoesBy topology world hops hop to

-- no rule but that on routes drops the packet at the site's edge, and this is the best of the VRF's routes that take part
pub record IsAddressed (topology : Network) (world : World) (site : ℕ) (bytes : List ℕ) (to : HeldRoute) : Type 0 where
  pub passes : first_rule (entry_rules (world.config.attached site) bytes) ≡ None
  pub best_is : best (eligible topology world (home_of topology site) (vrf_of topology site) (destination_of bytes)) (destination_of bytes) ≡ Some to

-- the nodes by which a packet goes from a site towards a route
abbrev pub route_to : Network → World → ℕ → HeldRoute → List ℕ
route_to topology world site to = route topology world (home_of topology site) to.edge

-- the packet was at each node of the route, and was delivered with its TTL less by the number of these nodes
pub record HasArrived (topology : Network) (world : World) (packets : Packets) (packet site : ℕ) (bytes : List ℕ) (to : HeldRoute) : Type 0 where
  pub copy : ℕ
  pub verdict : verdict_on packets packet ≡ Delivered (ttl_of bytes - length (route_to topology world site to)) (record { 0 = to.site }) copy
  pub path : slice_index_or packets.paths packet [] ≡ route_to topology world site to

-- the nodes on a walk over these links
abbrev pub nodes_over : Network → ℕ → List ℕ → List ℕ
nodes_over topology node [] = node ∷ []
nodes_over topology node (l ∷ ls) = node ∷ nodes_over topology (across (wiring_of topology) l node) ls

-- the nodes are those of a walk over links that are up, and none costs less
pub record IsLeastWay (topology : Network) (world : World) (from to : ℕ) (nodes : List ℕ) : Type 0 where
  pub links : List ℕ
  pub nodes_are : nodes ≡ nodes_over topology from links
  pub ends : walk_end (wiring_of topology) (links_up topology world) from links ≡ Some to
  pub least : IsLeast (wiring_of topology) (links_up topology world) from to (cost_of (wiring_of topology) links)
