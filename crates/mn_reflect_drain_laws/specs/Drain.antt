-- A drain where routes are reflected: words in flight are received, in whatever order. How many hearings it takes at most.
use Rattle.std.specs.Prelude.{◌≡◌, ◌≢◌, ◌+◌, ◌*◌, ◌==◌, ◌&&◌, ℕ, Bool, true, false, not, List, [], ◌∷◌, ◌++◌, map, length, ⊤}
use Rattle.std.specs.List.{flat_map}
use Rattle.mn_wiring.specs.Wiring.{nodes_of}
use Rattle.mn_topo.specs.VrfTable.{is_edge}
use Rattle.mn_topo.specs.Network.{Network, wiring_of}
use Rattle.mn_topo.specs.declared.steps.Step.{Step}
use Rattle.mn_topo.specs.declared.steps.Step.TheVariants as step
use Rattle.mn_ledger.specs.Places.{edges}
use Rattle.mn_ledger.specs.World.{Config}
use Rattle.mn_ledger.specs.Exports.{exports_of}
use Rattle.mn_ledger.specs.Bgp.{peers_live}
use Rattle.mn_drain_laws.specs.Sums.{total, where_so}
use Rattle.mn_reflect_ledger_laws.specs.Words.{Key, key_of, keys_in, in_order}
use Rattle.mn_reflect_ledger_laws.specs.Picks.{ReflectWorld, is_reflector, plain}
use Rattle.mn_reflect_ledger_laws.specs.World.{after}
use Rattle.mn_reflect_ledger_laws.specs.Refusal.{is_empty}
use Rattle.mn_reflect_ledger_laws.specs.Quiet.{NamesNodes}

-- 1. Its steps

-- a word that flies from one node to another is received
abbrev pub IsHearing : Network → ReflectWorld → Step → Type 0
IsHearing topology world (step.HearBgp a b) = NamesNodes topology (step.HearBgp a b) × (is_empty world (step.HearBgp a b) ≡ false)
IsHearing topology world _ = ⊥

abbrev pub IsDrain : Network → List ℕ → ReflectWorld → List Step → Type 0
IsDrain topology reflectors world [] = ⊤
IsDrain topology reflectors world (hearing ∷ hearings) =
    IsHearing topology world hearing × IsDrain topology reflectors (after topology reflectors world hearing) hearings

-- a living session is of two reflectors, or of a reflector and an edge: RFC 4456, section 6
abbrev pub ArePeers : Network → List ℕ → Config → Type 0
ArePeers topology reflectors config =
    (node peer : ℕ) → node ≢ peer → peers_live config node peer ≡ true → is_reflector reflectors node ≡ false →
    (is_edge topology.vrfs node ≡ true) × (is_reflector reflectors peer ≡ true)

-- 2. What is seen as it begins

-- a direction of a session that lives
abbrev pub is_direction : Config → ℕ → ℕ → Bool
is_direction config node peer = not (node == peer) && peers_live config node peer

abbrev pub over_directions : Network → Config → (ℕ → ℕ → ℕ) → ℕ
over_directions topology config f =
    total (length topology.loopbacks) (λ node. total (length topology.loopbacks) (λ peer. where_so (is_direction config node peer) (f node peer)))

abbrev pub directions : Network → Config → ℕ
directions topology config = over_directions topology config (λ node peer. 1)

-- the names of all routes that edges export
abbrev pub exported_keys : Network → Config → List Key
exported_keys topology config = flat_map (λ node. map key_of (map plain (exports_of topology config node))) (nodes_of (wiring_of topology))

-- of those that nodes have received announced in sessions as they are
abbrev pub heard_keys : Network → ReflectWorld → List Key
heard_keys topology world =
    flat_map (λ node. flat_map (λ peer. keys_in (world.heard node peer)) (nodes_of (wiring_of topology))) (nodes_of (wiring_of topology))

-- and of those whose announcements fly
abbrev pub flying_keys : ReflectWorld → List Key
flying_keys world = keys_in (map (λ spoken. spoken.word) world.flying)

-- how many routes these are
abbrev pub routes : Network → ReflectWorld → ℕ
routes topology world = length (in_order (exported_keys topology world.config ++ (heard_keys topology world ++ flying_keys world)))

-- 3. The bound

-- with R reflectors, E edges, m words in flight, B directions of living sessions and K routes
abbrev pub bound_of : ℕ → ℕ → ℕ → ℕ → ℕ → ℕ
bound_of reflectors edges words directions routes = reflectors * (1 + edges) * (words + directions * (1 + routes))

abbrev pub drain_bound : Network → List ℕ → ReflectWorld → ℕ
drain_bound topology reflectors world =
    bound_of (length reflectors) (length (edges topology)) (length world.flying) (directions topology world.config) (routes topology world)
