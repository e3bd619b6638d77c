-- What an edge holds, and what it holds where no word flies.
use Rattle.std.specs.Prelude.{◌≡◌, ◌≢◌, ◌==◌, ◌<◌, ◌&&◌, nat_lt, ℕ, true, false, not, List, [], ◌∷◌, ◌++◌, map, filter, length, Option, Some, None, option_map}
use Rattle.std.specs.List.{flat_map, AllByRecursion, Contains}
use Rattle.mn_wiring.specs.Wiring.{nodes_of}
use Rattle.mn_topo.specs.Network.{Network, wiring_of}
use Rattle.mn_topo.specs.declared.steps.Step.{Step}
use Rattle.mn_topo.specs.declared.steps.Step.TheVariants as step
use Rattle.mn_topo.specs.VrfTable.{is_edge}
use Rattle.mn_ledger.specs.Places.{loopback, vrf_at, edge_of, edges}
use Rattle.mn_ledger.specs.World.{Export}
use Rattle.mn_ledger.specs.Bgp.{peers_live}
use Rattle.mn_ledger.specs.Held.{HeldRoute, Far, held_by, own_routes, near_routes, imported}
use Rattle.mn_reflect_ledger_laws.specs.Words.{Key, Offer, Word, Open, KeepAlive, in_order, last_mention, keys_in}
use Rattle.mn_reflect_ledger_laws.specs.Picks.{ReflectWorld, is_established, is_reflector, from_reflectors, offered, own_offer}
use Rattle.mn_reflect_ledger_laws.specs.World.{words_to}

-- 1. Held by reflection

-- the routes of other edges' VRFs that an edge has received, each as the reflector of least address announced it
abbrev pub others_only : Network → ℕ → List Key → List Key
others_only topology edge keys = filter (λ key. nat_lt key.vrf (length topology.vrfs) && not (edge_of topology key.vrf == edge)) keys

abbrev pub export_in : Option Offer → List Export
export_in None = []
export_in (Some offer) = offer.export ∷ []

abbrev pub heard_keys : Network → ReflectWorld → ℕ → List Key
heard_keys topology world edge = in_order (flat_map (λ peer. keys_in (world.heard edge peer)) (nodes_of (wiring_of topology)))

abbrev pub reflected : Network → List ℕ → ReflectWorld → ℕ → List Export
reflected topology reflectors world edge =
    flat_map (λ key. export_in (from_reflectors topology reflectors world edge key)) (others_only topology edge (heard_keys topology world edge))

abbrev pub held_far : Network → Export → HeldRoute
held_far topology export =
    let peer : ℕ = edge_of topology export.vrf in
    held_by peer (Far (loopback topology peer) (vrf_at topology export.vrf).rd.0) export

unfoldable pub held : Network → List ℕ → ReflectWorld → ℕ → ℕ → List HeldRoute
held topology reflectors world edge v =
    own_routes topology world.config edge v
    ++ (near_routes topology world.config edge v ++ map (held_far topology) (imported world.config v (reflected topology reflectors world edge)))

-- 2. What was sent is what is offered

-- all that a node sent to a peer in the present life, received or in flight
abbrev pub told : ReflectWorld → ℕ → ℕ → List Word
told world node peer = world.heard peer node ++ words_to node peer world.flying

-- an end that is Established has sent what it offers, and another nothing
pub record SaysItsOffers (topology : Network) (reflectors : List ℕ) (world : ReflectWorld) (node peer : ℕ) : Type 0 where
  pub all : is_established world node peer ≡ true → (key : Key) → last_mention key None (told world node peer) ≡ offered topology reflectors world node peer key
  pub nothing : is_established world node peer ≡ false → (key : Key) → last_mention key None (told world node peer) ≡ None

-- OPEN comes first, and KEEPALIVE where that was received
abbrev pub BeginsBy : ℕ → List Word → Type 0
BeginsBy count [] = ⊥
BeginsBy count (Open ∷ []) = count ≡ 0
BeginsBy count (Open ∷ (KeepAlive ∷ more)) = 0 < count
BeginsBy count _ = ⊥

pub record IsInTurn (world : ReflectWorld) (node peer : ℕ) : Type 0 where
  pub alive : peers_live world.config node peer ≡ true → BeginsBy (length (world.heard node peer)) (told world node peer)
  pub dead : peers_live world.config node peer ≡ false → told world node peer ≡ []

-- 3. Where no word flies

-- reflectors are nodes that aren't edges
pub record AreReflectors (topology : Network) (reflectors : List ℕ) : Type 0 where
  pub nodes : (node : ℕ) → is_reflector reflectors node ≡ true → node < length topology.loopbacks
  pub no_edges : (node : ℕ) → is_reflector reflectors node ≡ true → is_edge topology.vrfs node ≡ false

-- each edge has a living session with a reflector, and each two reflectors have one
pub record IsJoined (topology : Network) (reflectors : List ℕ) (world : ReflectWorld) : Type 0 where
  pub each_edge : (edge : ℕ) → Contains (edges topology) edge →
      (node : ℕ) × (is_reflector reflectors node ≡ true) × (peers_live world.config edge node ≡ true)
  pub each_two : (one other : ℕ) → is_reflector reflectors one ≡ true → is_reflector reflectors other ≡ true → one ≢ other →
      peers_live world.config one other ≡ true

-- of each route of another edge's VRF an edge has what that edge exports now, and nothing else
abbrev pub HasWhatIsExported : Network → List ℕ → ReflectWorld → Type 0
HasWhatIsExported topology reflectors world =
    (edge : ℕ) (key : Key) → Contains (edges topology) edge → Contains (edges topology) (edge_of topology key.vrf) → edge_of topology key.vrf ≢ edge →
    option_map (λ offer. offer.export) (from_reflectors topology reflectors world edge key)
    ≡ option_map (λ offer. offer.export) (own_offer topology world.config (edge_of topology key.vrf) key)

-- 4. Every run

-- a step of a session names two nodes, the lesser first where it begins or ends
abbrev pub NamesNodes : Network → Step → Type 0
NamesNodes topology (step.BgpUp a b) = (a.0 < b.0) × (b.0 < length topology.loopbacks)
NamesNodes topology (step.BgpDown a b) = (a.0 < b.0) × (b.0 < length topology.loopbacks)
NamesNodes topology (step.HearBgp a b) = (a.0 ≢ b.0) × (a.0 < length topology.loopbacks) × (b.0 < length topology.loopbacks)
NamesNodes topology _ = Unit {0}

abbrev pub AreReflected : Network → List Step → Type 0
AreReflected topology steps = AllByRecursion (NamesNodes topology) steps
