-- What a node has received, what a reflector picks of it, and what each node offers its peers.
use Rattle.std.specs.Prelude.{ℕ, ◌==◌, ◌&&◌, Bool, not, nat_lt, nat_le, if◌then◌else◌, List, [], ◌∷◌, map, filter, find, length, Option, Some, None, option_map}
use Rattle.std.specs.List.{flat_map, list_any}
use Rattle.mn_wiring.specs.Wiring.{nodes_of}
use Rattle.mn_topo.specs.Network.{Network, wiring_of}
use Rattle.mn_ledger.specs.Places.{loopback, edge_of}
use Rattle.mn_ledger.specs.World.{Config, Export}
use Rattle.mn_ledger.specs.Exports.{exports_of}
use Rattle.mn_ledger.specs.Bgp.{peers_live}
use Rattle.mn_reflect_ledger_laws.specs.Words.{Key, Offer, Word, key_of, same_key, last_mention, keys_in}

-- a word on its way
pub record Spoken : Type 0 where
  pub from : ℕ
  pub to : ℕ
  pub word : Word

-- what is configured; by hearer and peer, what was received in the present life of their session; and what flies, in the order of sending
pub record ReflectWorld : Type 0 where
  pub config : Config
  pub heard : ℕ → ℕ → List Word
  pub flying : List Spoken

-- an end has received OPEN and KEEPALIVE in a session that lives
abbrev pub is_established : ReflectWorld → ℕ → ℕ → Bool
is_established world node peer = peers_live world.config node peer && nat_le 2 (length (world.heard node peer))

-- 1. What was received

-- the last mention received from a peer in a living session, where that is an announcement
abbrev pub announced_by : ReflectWorld → ℕ → ℕ → Key → Option Offer
announced_by world node peer key = if peers_live world.config node peer then last_mention key None (world.heard node peer) else None

abbrev pub or_else : {A : Type 0} → Option A → Option A → Option A
or_else None other = other
or_else (Some one) other = Some one

-- of these peers the first whose last mention is an announcement
abbrev pub first_announced : ReflectWorld → ℕ → Key → List ℕ → Option Offer
first_announced world node key [] = None
first_announced world node key (peer ∷ peers) = or_else (announced_by world node peer key) (first_announced world node key peers)

-- reflectors by address, the least first
abbrev pub placed_by : Network → ℕ → List ℕ → List ℕ
placed_by topology node [] = node ∷ []
placed_by topology node (other ∷ others) =
    if nat_lt (loopback topology node) (loopback topology other) then node ∷ other ∷ others
    else other ∷ placed_by topology node others

abbrev pub by_address : Network → List ℕ → List ℕ
by_address topology [] = []
by_address topology (node ∷ nodes) = placed_by topology node (by_address topology nodes)

-- what reflectors other than the node itself say of a route: the one of least address decides
abbrev pub from_reflectors : Network → List ℕ → ReflectWorld → ℕ → Key → Option Offer
from_reflectors topology reflectors world node key = first_announced world node key (by_address topology (filter (λ other. not (other == node)) reflectors))

-- what the VRF's edge says of it
abbrev pub from_edge : Network → ReflectWorld → ℕ → Key → Option Offer
from_edge topology world node key = announced_by world node (edge_of topology key.vrf) key

-- 2. What a reflector picks, and what each node offers a peer

abbrev pub pick : Network → List ℕ → ReflectWorld → ℕ → Key → Option Offer
pick topology reflectors world node key = or_else (from_edge topology world node key) (from_reflectors topology reflectors world node key)

abbrev pub is_reflector : List ℕ → ℕ → Bool
is_reflector reflectors node = list_any (λ other. other == node) reflectors

-- the reflector puts its address in front of the clusters
abbrev pub through : Network → ℕ → Offer → Offer
through topology node offer = record offer { clusters = loopback topology node ∷ offer.clusters }

-- to another reflector what came from an edge; to an edge what it picked for VRFs of other edges
abbrev pub to_reflect : Network → List ℕ → ReflectWorld → ℕ → ℕ → Key → Option Offer
to_reflect topology reflectors world node peer key =
    if is_reflector reflectors peer then from_edge topology world node key
    else if edge_of topology key.vrf == peer then None
    else pick topology reflectors world node key

-- an edge's own export of this name
abbrev pub plain : Export → Offer
plain export = record { export = export; clusters = [] }

abbrev pub own_offer : Network → Config → ℕ → Key → Option Offer
own_offer topology config edge key = find (λ offer. same_key key (key_of offer)) (map plain (exports_of topology config edge))

abbrev pub offered : Network → List ℕ → ReflectWorld → ℕ → ℕ → Key → Option Offer
offered topology reflectors world node peer key =
    if is_reflector reflectors node then option_map (through topology node) (to_reflect topology reflectors world node peer key)
    else own_offer topology world.config node key

-- the names of all that a node may offer
abbrev pub known_keys : Network → List ℕ → ReflectWorld → ℕ → List Key
known_keys topology reflectors world node =
    if is_reflector reflectors node then flat_map (λ peer. keys_in (world.heard node peer)) (nodes_of (wiring_of topology))
    else map key_of (map plain (exports_of topology world.config node))
