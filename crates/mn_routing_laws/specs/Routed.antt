-- What contracts see of a network's routes, and when they stand for the ledger.
use Rattle.std.specs.Prelude.{◌≡◌, ◌≢◌, ◌<◌, ◌+◌, ◌*◌, ℕ, List, length, map, drop, Option, option_map}
use Rattle.mn_flight.specs.declared.Item.{Item}
use Rattle.mn_flight.specs.Flying.{IsFlight, on_channel}
use Rattle.mn_topo.specs.Network.{Network}
use Rattle.mn_topo.specs.declared.steps.JournalEntry.{JournalEntry}
use Rattle.mn_bgp_session.specs.declared.session.BgpSession.{BgpSession}
use Rattle.mn_ledger.specs.World.{Peerings, World}
use Rattle.mn_ledger.specs.Ledger.{world_of}
use Rattle.mn_frame_laws.specs.Numbers.{labels_of}
use Rattle.mn_bgp_spelling_laws.specs.Spelling.{Labels, bytes_in}
use Rattle.mn_pe.specs.Pe.{PeNow}
pub use Rattle.mn_edges.specs.Changes.{working}
use Rattle.mn_routing_laws.specs.Whole.{routes_in}

pub record Routed : Type 0 where
  pub edges : List (Option PeNow)  -- by node, none of a node that is no edge
  pub sessions : List (List (Option BgpSession))  -- by node and peer, none where no session lives
  pub messages : List (Item (List ℕ))  -- of BGP in flight, in the order of their numbers

-- a flight with a channel for each two nodes
pub record HasChannels (routed : Routed) (channels : ℕ) : Type 0 where
  pub channels_are : channels ≡ length routed.edges * length routed.edges
  pub messages_fly : IsFlight channels routed.messages

-- what an edge sent a peer that the peer hasn't received, in bytes
abbrev pub unheard : Network → Labels → Peerings → ℕ → ℕ → List (List ℕ)
unheard topology labels peerings edge peer = map (bytes_in topology labels edge) (drop (peerings.heard peer edge) (peerings.told edge peer))

-- what flies on a channel, in bytes
abbrev pub bytes_on : ℕ → List (Item (List ℕ)) → List (List ℕ)
bytes_on channel items = map (λ item. item.item) (on_channel channel items)

-- The edges and the sessions are the ledger's, and from each edge to each peer fly, in order, the messages that the peer hasn't received.
pub record StandsFor (topology : Network) (labels : Labels) (world : World) (routed : Routed) : Type 0 where
  pub edges : routed.edges ≡ map (option_map working) (routes_in topology labels world.config world.peerings).edges
  pub sessions : routed.sessions ≡ (routes_in topology labels world.config world.peerings).sessions
  pub messages : (edge peer : ℕ) → edge < length topology.loopbacks → peer < length topology.loopbacks → edge ≢ peer →
      bytes_on (edge * length topology.loopbacks + peer) routed.messages ≡ unheard topology labels world.peerings edge peer

-- they are the routes after this journal, with the labels that were given in it
abbrev pub IsRoutes : Network → List JournalEntry → Routed → Type 0
IsRoutes topology journal routed = StandsFor topology (labels_of topology journal) (world_of topology journal) routed
