-- Settled worlds, and the stretches of a journal that only move packets.
use Rattle.std.specs.Prelude.{◌≡◌, ◌<◌, ◌≢◌, ℕ, zero, suc, Bool, true, false, List, [], ◌∷◌, length, Some, None}
use Rattle.std.specs.List.{list_all}
use Rattle.mn_topo.specs.Wiring.{is_end, across}
use Rattle.mn_topo.specs.Paths.{next}
use Rattle.mn_topo.specs.Network.{Network, wiring_of}
use Rattle.mn_topo.specs.VrfTable.{is_edge}
use Rattle.mn_topo.specs.declared.steps.Step.{Step}
use Rattle.mn_topo.specs.declared.steps.Step.TheVariants.{Inject, Carry}
use Rattle.mn_topo.specs.declared.steps.JournalEntry.{JournalEntry}
use Rattle.mn_ledger.specs.World.{World}
use Rattle.mn_ledger.specs.Transport.{lives, view_of}
use Rattle.mn_ledger.specs.Bgp.{peers_live}
use Rattle.mn_ledger.specs.Ledger.{world_of}

-- every change is learned; LDP is switched on for each link that is up; all that was sent by LDP and by BGP in a session that lives
-- is received; and each pair of edges has a session
pub record IsSettled (topology : Network) (world : World) : Type 0 where
  pub learned : (node l : ℕ) → node < length topology.loopbacks → l < length topology.links → world.views.learned node l ≡ world.views.changes l
  pub switched : (l : ℕ) → l < length topology.links → world.config.is_up l ≡ true → world.config.ldp_on l ≡ true
  pub heard : (l node : ℕ) → l < length topology.links → is_end (wiring_of topology) l node ≡ true → lives world.config l ≡ true →
      world.sessions.heard l node ≡ length (world.sessions.said l (across (wiring_of topology) l node))
  pub peered : (one other : ℕ) → one ≢ other → is_edge topology.vrfs one ≡ true → is_edge topology.vrfs other ≡ true → peers_live world.config one other ≡ true
  pub told : (one other : ℕ) → one ≢ other → is_edge topology.vrfs one ≡ true → is_edge topology.vrfs other ≡ true →
      world.peerings.heard one other ≡ length (world.peerings.told other one)

-- only packets move
abbrev pub moves_packets : Step → Bool
moves_packets (Inject s number) = true
moves_packets (Carry l dir place) = true
moves_packets _ = false

-- a part of a journal that begins settled, and in which only packets move
pub record IsSteady (topology : Network) (before entries : List JournalEntry) : Type 0 where
  pub settled : IsSettled topology (world_of topology before)
  pub moving : list_all (λ entry. moves_packets entry.step) entries ≡ true

-- the nodes by which a packet goes from one node to another, at most so many after the first
abbrev pub hops_from : Network → World → ℕ → ℕ → ℕ → List ℕ
hops_from topology world zero node to = node ∷ []
hops_from topology world (suc more) node to =
    elim (next (wiring_of topology) (view_of (wiring_of topology) world.views node) node to) [
      | None ↦ node ∷ []
      | Some hop ↦ node
          ∷ hops_from topology world more hop.0 to
    ]

-- the route from a node to an edge
abbrev pub route : Network → World → ℕ → ℕ → List ℕ
route topology world node to = hops_from topology world (length topology.loopbacks) node to
