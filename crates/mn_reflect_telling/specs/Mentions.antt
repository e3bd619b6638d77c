-- What a node's peers last sent of a route, where one of them says this.
use Rattle.std.specs.Prelude.{◌≡◌, ◌≢◌, ◌<◌, ℕ, ◌==◌, List, [], length, map, slice_index_or, if◌then◌else◌, Option, None, option_map}
use Rattle.std.specs.List.{AllByRecursion}
use Rattle.mn_base.specs.declared.numbers.NodeNo.{NodeNo}
use Rattle.mn_topo.specs.Network.{Network}
use Rattle.mn_ledger.specs.Places.{edge_of}
use Rattle.mn_offers.specs.Heard.{Heard}
use Rattle.mn_reflect_ledger_laws.specs.Words.{Key}
use Rattle.mn_reflect_ledger_laws.specs.Picks.{is_reflector}
use Rattle.mn_reflect_world_laws.specs.Choice.{Row, kept_of, picked_by}
use Rattle.mn_reflect_telling.specs.Names.{named}
use Rattle.mn_reflect_telling.specs.Passing.{IsPassable, IfPassable}
use Rattle.mn_reflect_telling.specs.declared.mentions.Mentions.{Mentions}

-- the row is what is received, but that the peer's last mention of the route is this
pub record Shows (heard : List (List Heard)) (key : Key) (peer : ℕ) (mention : Option Heard) (row : Row) : Type 0 where
  pub others : (other : ℕ) → other ≢ peer → row other ≡ slice_index_or heard other []
  pub said : kept_of row key peer ≡ mention

abbrev pub said_in : Mentions → Option Heard
said_in mentions = option_map (λ offered. offered.now) mentions.mention

abbrev pub ShowsIn : Mentions → Row → Type 0
ShowsIn mentions row = Shows mentions.heard.now (named mentions.vrf mentions.prefix) mentions.peer.0 (said_in mentions) row

-- they are of a route of one of the topology's VRFs at one of its nodes, and each can be passed on
pub record AreOf (topology : Network) (mentions : Mentions) : Type 0 where
  pub vrf : mentions.vrf.0 < length topology.vrfs
  pub nodes : length mentions.heard.now ≡ length topology.loopbacks
  pub each : AllByRecursion (λ routes. AllByRecursion (IsPassable topology) routes) mentions.heard.now
  pub said : IfPassable topology (said_in mentions)

-- of each peer routes are kept that can be passed on
pub record AreKept (topology : Network) (heard : List (List Heard)) : Type 0 where
  pub nodes : length heard ≡ length topology.loopbacks
  pub each : AllByRecursion (λ routes. AllByRecursion (IsPassable topology) routes) heard

-- what is received, by peer, and where one peer sent these routes
abbrev pub row_in : List (List Heard) → Row
row_in heard other = slice_index_or heard other []

abbrev pub row_with : List (List Heard) → ℕ → List Heard → Row
row_with heard peer routes other = if other == peer then routes else slice_index_or heard other []

abbrev pub key_of_heard : Heard → Key
key_of_heard route = record { vrf = route.vrf; prefix = route.prefix }

abbrev pub numbers_of : List NodeNo → List ℕ
numbers_of nodes = map (λ (node : NodeNo). node.0) nodes

abbrev pub AreNodes : Network → List NodeNo → Type 0
AreNodes topology nodes = AllByRecursion (λ (node : NodeNo). node.0 < length topology.loopbacks) nodes

-- what a reflector offers a peer, before its address stands in front of the clusters
abbrev pub held_out : Network → List ℕ → Row → ℕ → ℕ → Key → Option Heard
held_out topology reflectors row node peer key =
    if is_reflector reflectors peer then kept_of row key (edge_of topology key.vrf)
    else if edge_of topology key.vrf == peer then None
    else picked_by topology reflectors row node key
