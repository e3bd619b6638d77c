-- What edges put into flight.
use Rattle.std.specs.Prelude.{◌+◌, ◌*◌, ℕ, Bool, List, [], ◌∷◌, map, length, slice_index_or, Option, Some, None}
use Rattle.std.specs.List.{flat_map}
use Rattle.mn_base.specs.declared.numbers.NodeNo.{NodeNo}
use Rattle.mn_states.specs.declared.states.BgpState.{BgpState}
use Rattle.mn_states.specs.declared.states.BgpState.TheVariants.{Idle}
use Rattle.mn_flight.specs.declared.Item.{Item}
use Rattle.mn_topo.specs.Network.{Network}
use Rattle.mn_bgp_session.specs.declared.session.BgpSession.{BgpSession}
use Rattle.mn_pe.specs.Held.{Exported}
pub use Rattle.mn_edges.specs.Peers.{is_established, is_steady, peers_from}
pub use Rattle.mn_edges.specs.Said.{spelled_in}
use Rattle.mn_routing_laws.specs.Routed.{Routed}

-- 1. Parcels

-- the channel of a message, and its bytes
abbrev pub Parcel : Type 0
Parcel = ℕ × List ℕ

-- parcels in flight, all due at a tick, and numbered from this number on
abbrev pub put_all : ℕ → ℕ → List Parcel → List (Item (List ℕ))
put_all due number [] = []
put_all due number (parcel ∷ parcels) = record { channel = parcel.0; due = due; number = number; item = parcel.1 } ∷ put_all due (number + 1) parcels

-- a message to peer after peer, on the channels from this number on
abbrev pub to_each : ℕ → List NodeNo → List ℕ → List Parcel
to_each first peers bytes = map (λ peer. (first + peer.0, bytes)) peers

-- message by message
abbrev pub to_all : ℕ → List NodeNo → List (List ℕ) → List Parcel
to_all first peers messages = flat_map (to_each first peers) messages

-- 2. Whom an edge tells

-- how far a session has come at an end
abbrev pub bgp_state_by : Option BgpSession → BgpState
bgp_state_by None = Idle
bgp_state_by (Some session) = session.state

-- the ends of an edge's sessions
abbrev pub ends_of : Routed → ℕ → List (Option BgpSession)
ends_of routed edge = slice_index_or routed.sessions edge []

-- 3. What it tells

-- to these peers
abbrev pub news_to : Network → ℕ → List NodeNo → Bool → List Exported → List Parcel
news_to topology edge peers comes exports = to_all (edge * length topology.loopbacks) peers (map (spelled_in topology edge comes) exports)

-- to all peers with which it is Established
abbrev pub news_in : Network → Routed → ℕ → Bool → List Exported → List Parcel
news_in topology routed edge comes exports = news_to topology edge (peers_from 0 (ends_of routed edge)) comes exports
