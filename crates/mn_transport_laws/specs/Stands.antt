-- When a network's transport stands for the ledger.
use Rattle.std.specs.Prelude.{◌≡◌, ◌<◌, ◌+◌, ◌*◌, ◌^◌, ℕ, false, List, length, map, drop, slice_get, slice_index, Some}
use Rattle.mn_wiring.specs.Wiring.{links_of, sender, receiver}
use Rattle.mn_wiring.specs.declared.links.Dir.{Dir}
use Rattle.mn_flight.specs.Flying.{on_channel}
use Rattle.mn_linkdb.specs.Changes.{is_odd}
use Rattle.mn_topo.specs.Network.{Network, wiring_of}
use Rattle.mn_topo.specs.declared.steps.JournalEntry.{JournalEntry}
use Rattle.mn_ledger.specs.Packets.{channel}
use Rattle.mn_ledger.specs.Places.{home_of}
use Rattle.mn_ledger.specs.Ledger.{world_of}
use Rattle.mn_ledger.specs.World.{World}
use Rattle.mn_slice_laws.specs.Slice.{node_at}
use Rattle.mn_labels.specs.Labels.{greatest, own_labels}
use Rattle.mn_reuse_laws.specs.Relabelled.{node_with}
use Rattle.mn_reuse_laws.specs.Resting.{rested_of}
use Rattle.mn_frame_laws.specs.Given.{Labelling, given, label_at}
use Rattle.mn_frame_laws.specs.Tables.{TableStands}
use Rattle.mn_lsr.specs.Standing.{Standing}
use Rattle.mn_transport_laws.specs.Carried.{Carried}
use Rattle.mn_transport_laws.specs.Sending.{spelled}
use Rattle.mn_transport_laws.specs.Resting.{IsResting}

-- by node and FEC, the label that the node says of the FEC: 3 of its own
abbrev pub own_of : Labelling → ℕ → ℕ → ℕ
own_of given node = own_labels node (given node)

-- The node of this number: what it has learned and received is the ledger's, with the labels that FECs have now; its labels are
-- these, of 20 bits each; by its count of what neighbours owe its FECs rest since these ticks; and its label table leads to where
-- the ledger can send.
pub record IsNode (topology : Network) (given : Labelling) (rested : ℕ → ℕ → ℕ) (world : World) (node : ℕ) (standing : Standing) : Type 0 where
  pub wiring : standing.wiring ≡ wiring_of topology
  pub node_is : standing.node ≡ node_with (wiring_of topology) (own_of given) (node_at topology world node)
  pub labels : standing.labels ≡ given node
  pub in_range : greatest standing.labels.given < 2 ^ 20
  pub resting : IsResting topology world (rested node) node standing.resting
  pub table : TableStands topology given world node standing.uses
  pub works : standing.failed ≡ false

-- Each node is the ledger's. For each change that a node hasn't learned a notice flies to it. On each link fly in each direction,
-- in order, the PDUs of the messages that were sent and not received, with the labels that FECs have now.
pub record StandsFor (topology : Network) (given : Labelling) (rested : ℕ → ℕ → ℕ) (world : World) (carried : Carried) : Type 0 where
  pub each : length carried.nodes ≡ length topology.loopbacks
  pub nodes : (node : ℕ) (standing : Standing) → slice_get carried.nodes node ≡ Some standing → IsNode topology given rested world node standing
  pub changes : carried.changes ≡ map world.views.changes (links_of (wiring_of topology))
  pub up : (l : ℕ) → l < length topology.links → is_odd (world.views.changes l) ≡ world.config.is_up l
  pub switches : carried.switches ≡ map world.config.ldp_on (links_of (wiring_of topology))
  pub each_site : length carried.labels ≡ length topology.sites
  pub sites : (site attachment : ℕ) → site < length topology.sites → world.config.attached site ≡ Some attachment →
      slice_index carried.labels site ≡ label_at given (home_of topology site) site attachment
  pub notices : (l node : ℕ) → l < length topology.links → node < length topology.loopbacks →
      world.views.learned node l + length (on_channel (l * length topology.loopbacks + node) carried.notices) ≡ world.views.changes l
  pub messages : (l : ℕ) (dir : Dir) → l < length topology.links →
      map (λ item. item.item) (on_channel (channel l dir) carried.messages)
      ≡ drop (world.sessions.heard l (receiver (wiring_of topology) l dir))
      (spelled (wiring_of topology) (own_of given) l (sender (wiring_of topology) l dir) 1 (world.sessions.said l (sender (wiring_of topology) l dir)))

-- it is the transport after this journal, with the labels that were given in it
abbrev pub IsTransport : Network → List JournalEntry → Carried → Type 0
IsTransport topology journal carried = StandsFor topology (given topology journal) (rested_of topology journal) (world_of topology journal) carried
