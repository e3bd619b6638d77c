-- A drain: while notices are in flight they are learned, and then messages are received, until none is left. How many steps it
-- takes at most, in whatever order the notices are learned and the messages received.
use Rattle.std.specs.Prelude.{◌≡◌, ◌≢◌, ◌<◌, sum, map, ℕ, zero, suc, ◌+◌, ◌-◌, ◌*◌, ◌==◌, ◌&&◌, Bool, true, false, not, List, [], ◌∷◌, drop, length, Option}
use Rattle.std.specs.Prelude.{Some, None, ⊤}
use Rattle.mn_wiring.specs.Wiring.{links_of, is_end, across, sender}
use Rattle.mn_topo.specs.VrfTable.{is_edge}
use Rattle.mn_topo.specs.Network.{Network, wiring_of}
use Rattle.mn_topo.specs.Steps.{fits}
use Rattle.mn_topo.specs.declared.steps.Step.{Step}
use Rattle.mn_topo.specs.declared.steps.Step.TheVariants.{Learn, HearLdp, HearBgp}
use Rattle.mn_ledger.specs.World.{Config, Views, Sessions, Peerings, World}
use Rattle.mn_ledger.specs.Transport.{lives}
use Rattle.mn_ledger.specs.Exports.{exports_of}
use Rattle.mn_ledger.specs.Bgp.{peers_live}
use Rattle.mn_ledger.specs.Ledger.{after, no_packets}
use Rattle.mn_ledger.specs.Refusal.{is_empty, notices_unlearned, unheard_over, unheard_by}
use Rattle.mn_ledger.specs.Items.{Channel, Notices, Messages, Routes}
use Rattle.mn_ledger.specs.Places.{edges}
use Rattle.mn_drain_laws.specs.Sums.{total, where_so}

-- 1. Its steps

abbrev pub AllLearned : Network → Views → Type 0
AllLearned topology views = (node l : ℕ) → node < length topology.loopbacks → l < length topology.links → views.learned node l ≡ views.changes l

-- messages are received once no notice is in flight
abbrev pub ComesInTurn : Network → World → Step → Type 0
ComesInTurn topology world (Learn node l) = ⊤
ComesInTurn topology world (HearLdp l dir) = AllLearned topology world.views
ComesInTurn topology world (HearBgp a b) = AllLearned topology world.views
ComesInTurn topology world _ = ⊥

pub record IsDrainStep (topology : Network) (world : World) (step : Step) : Type 0 where
  pub fitting : fits topology step ≡ true
  pub there : is_empty topology world no_packets step ≡ false
  pub in_turn : ComesInTurn topology world step

abbrev pub IsDrain : Network → World → List Step → Type 0
IsDrain topology world [] = ⊤
IsDrain topology world (step ∷ steps) = IsDrainStep topology world step × IsDrain topology (after topology world step) steps

abbrev pub after_steps : Network → World → List Step → World
after_steps topology world [] = world
after_steps topology world (step ∷ steps) = after_steps topology (after topology world step) steps

-- no step is left to a drain: nothing is in flight but frames
abbrev pub IsDrained : Network → World → Type 0
IsDrained topology world = (step : Step) → IsDrainStep topology world step → ⊥

-- each link that is up has LDP switched on, and each pair of edges has a session
pub record IsSwitchedOn (topology : Network) (config : Config) : Type 0 where
  pub switched : (l : ℕ) → l < length topology.links → config.is_up l ≡ true → config.ldp_on l ≡ true
  pub peered : (one other : ℕ) → one ≢ other → is_edge topology.vrfs one ≡ true → is_edge topology.vrfs other ≡ true → peers_live config one other ≡ true

-- the channel from which a step takes the first item
abbrev pub taken_from : Network → Step → Option Channel
taken_from topology (Learn node l) = Some (Notices l.0 node.0)
taken_from topology (HearLdp l dir) = Some (Messages l.0 (sender (wiring_of topology) l.0 dir))
taken_from topology (HearBgp a b) = Some (Routes a.0 b.0)
taken_from topology _ = None

abbrev pub is_nil : {A : Type 0} → List A → Bool
is_nil [] = true
is_nil (x ∷ xs) = false

-- 2. The bound

-- a direction of a BGP session that lives
abbrev pub is_direction : Network → Config → ℕ → ℕ → Bool
is_direction topology config edge peer = (is_edge topology.vrfs edge && is_edge topology.vrfs peer) && (not (edge == peer) && peers_live config edge peer)

abbrev pub over_directions : Network → Config → (ℕ → ℕ → ℕ) → ℕ
over_directions topology config f =
    total (length topology.loopbacks) (λ edge. total (length topology.loopbacks) (λ peer. where_so (is_direction topology config edge peer) (f edge peer)))

abbrev pub directions : Network → Config → ℕ
directions topology config = over_directions topology config (λ edge peer. 1)

-- the exports of all edges
abbrev pub all_exports : Network → Config → ℕ
all_exports topology config = total (length topology.loopbacks) (λ edge. length (exports_of topology config edge))

-- the LDP and BGP messages in flight
abbrev pub messages : Network → World → ℕ
messages topology world =
    sum (map (unheard_over topology world.sessions) (links_of (wiring_of topology))) + sum (map (unheard_by topology world.peerings) (edges topology))

-- with q notices and m messages in flight, L links, P nodes, B directions of living BGP sessions and E exports
abbrev pub bound_of : ℕ → ℕ → ℕ → ℕ → ℕ → ℕ → ℕ
bound_of q m links nodes directions exports =
    q + 2 * (m + q * nodes * links + 2 * links * (nodes + 3)) * (1 + 2 * links * nodes) + directions * (exports + 2)

abbrev pub drain_bound : Network → World → ℕ
drain_bound topology world =
    bound_of (notices_unlearned topology world.views) (messages topology world) (length topology.links) (length topology.loopbacks)
    (directions topology world.config) (all_exports topology world.config)

-- 3. What is in flight, by nodes and links

-- notices
abbrev pub notices : Network → Views → ℕ
notices topology views = total (length topology.loopbacks) (λ node. total (length topology.links) (λ l. views.changes l - views.learned node l))

-- of what an end of a link has sent, what the other hasn't received
abbrev pub unheard_on : Network → Config → Sessions → ℕ → ℕ → ℕ
unheard_on topology config sessions node l =
    where_so (is_end (wiring_of topology) l node && lives config l)
    (length (drop (sessions.heard l (across (wiring_of topology) l node)) (sessions.said l node)))

-- LDP messages
abbrev pub ldp_messages : Network → Config → Sessions → ℕ
ldp_messages topology config sessions = total (length topology.loopbacks) (λ node. total (length topology.links) (unheard_on topology config sessions node))

-- BGP messages
abbrev pub bgp_messages : Network → Config → Peerings → ℕ
bgp_messages topology config peerings = over_directions topology config (λ edge peer. length (drop (peerings.heard peer edge) (peerings.told edge peer)))

-- 4. What lies ahead of the hearings of BGP messages

-- what an edge has still to tell a peer before it is Established and as it becomes so, by how many messages it has received
abbrev pub greeting_length : ℕ → ℕ → ℕ
greeting_length zero exports = 1 + exports
greeting_length (suc zero) exports = exports
greeting_length (suc (suc more)) exports = 0

abbrev pub told_ahead : Network → Config → Peerings → ℕ → ℕ → ℕ
told_ahead topology config peerings edge peer =
    length (drop (peerings.heard peer edge) (peerings.told edge peer)) + greeting_length (peerings.heard edge peer) (length (exports_of topology config edge))

abbrev pub bgp_ahead : Network → Config → Peerings → ℕ
bgp_ahead topology config peerings = over_directions topology config (told_ahead topology config peerings)
