-- What a node does in a step, before it is known to be the ledger's.
use Rattle.std.specs.Prelude.{◌≡◌, ◌≢◌, ◌<◌, ◌+◌, ◌^◌, ℕ, Bool, true, false, List, ◌++◌, length, slice_get, slice_index, slice_set, Some, None, Ok, ⊤}
use Rattle.mn_wiring.specs.Wiring.{is_end, receiver}
use Rattle.mn_wiring.specs.declared.links.Dir.{Dir}
use Rattle.mn_flight.specs.declared.Item.{Item}
use Rattle.mn_flight.specs.Flying.{on_channel}
use Rattle.mn_node.specs.Node.{Session, Node, session_at}
use Rattle.mn_node.specs.Machine.{Event, Learns, Opens, Closes, Hears, after_event}
use Rattle.mn_lsr.specs.Hearing.{after_bytes}
use Rattle.mn_labels.specs.Labels.{greatest}
use Rattle.mn_lsr.specs.Standing.{Standing, TableStands, SitesKeep, HasNumbers}
use Rattle.mn_lsr.specs.Turns.{kept_in, labels_then, resting_then, kept_then}
use Rattle.mn_topo.specs.Network.{Network, wiring_of}
use Rattle.mn_ledger.specs.Packets.{channel}
use Rattle.mn_transport_laws.specs.Carried.{Carried}
use Rattle.mn_transport_laws.specs.Sending.{put_pdus, pdus_in}

-- a session opens, or closes
abbrev pub turned_by : Bool → ℕ → Event
turned_by true l = Opens l
turned_by false l = Closes l

-- there is a change to learn, or the session is closed, or open
abbrev pub IsReady : List ℕ → Node → Event → Type 0
IsReady changes node (Learns l) = slice_index node.learned l < slice_index changes l
IsReady changes node (Opens l) = session_at node l ≡ None
IsReady changes node (Closes l) = session_at node l ≢ None
IsReady changes node (Hears l message label) = session_at node l ≢ None

-- the link of an event, and that the node is an end of it but where it learns
abbrev pub link_in : Event → ℕ
link_in (Learns l) = l
link_in (Opens l) = l
link_in (Closes l) = l
link_in (Hears l message label) = l

abbrev pub IsAtEnd : Network → ℕ → Event → Type 0
IsAtEnd topology node (Learns l) = ⊤
IsAtEnd topology node (Opens l) = is_end (wiring_of topology) l node ≡ true
IsAtEnd topology node (Closes l) = is_end (wiring_of topology) l node ≡ true
IsAtEnd topology node (Hears l message label) = is_end (wiring_of topology) l node ≡ true

-- the node of this number is one to which this may happen
pub record MayAct (topology : Network) (carried : Carried) (node : ℕ) (event : Event) : Type 0 where
  pub was : Standing
  pub there : slice_get carried.nodes node ≡ Some was
  pub wiring : was.wiring ≡ wiring_of topology
  pub me : was.node.me ≡ node
  pub links : length carried.changes ≡ length topology.links
  pub sessions : length was.node.sessions ≡ length topology.links
  pub link : link_in event < length topology.links
  pub at_end : IsAtEnd topology node event
  pub ready : IsReady carried.changes was.node event
  pub numbers : HasNumbers was.node

-- and the PDU that is next in this direction of the link is received so, at each tick
pub record MayHear (topology : Network) (carried : Carried) (l : ℕ) (dir : Dir) (event : Event) : Type 0 where
  pub may : MayAct topology carried (receiver (wiring_of topology) l dir) event
  pub link : link_in event ≡ l
  pub pdu : Item (List ℕ)
  pub flies : slice_get (on_channel (channel l dir) carried.messages) 0 ≡ Some pdu
  pub session : Session
  pub lives : session_at may.was.node l ≡ Some session
  pub heard : (tick : ℕ) → after_bytes may.was.wiring tick l (kept_in may.was) session pdu.item ≡ Ok (record {
    kept = kept_then may.was.wiring tick (kept_in may.was) event;
    said = pdus_in may.was.wiring tick (kept_in may.was) event;
  })

-- what an event makes of a node at this tick
pub record Becomes (tick : ℕ) (event : Event) (was now : Standing) : Type 0 where
  pub wiring : now.wiring ≡ was.wiring
  pub node_is : now.node ≡ after_event was.wiring was.node event
  pub labels_are : now.labels ≡ labels_then was.wiring tick (kept_in was) event
  pub in_range : greatest was.labels.given < 2 ^ 20 → greatest now.labels.given < 2 ^ 20
  pub resting_is : now.resting ≡ resting_then was.wiring tick (kept_in was) event
  pub works : now.failed ≡ was.failed
  pub table : TableStands now
  pub sites : SitesKeep was now

-- one node does what an event makes it do, and what it says is in flight behind the rest
pub record Acts (topology : Network) (tick number node : ℕ) (event : Event) (old new : Carried) (next : ℕ) : Type 0 where
  pub was : Standing
  pub now : Standing
  pub there : slice_get old.nodes node ≡ Some was
  pub becomes : Becomes tick event was now
  pub new_is : new ≡ record old {
    nodes = slice_set old.nodes node now;
    messages =
        old.messages ++ put_pdus (wiring_of topology) node tick number (pdus_in (wiring_of topology) tick (kept_in was) event);
  }
  pub next_is : next ≡ number + length (pdus_in (wiring_of topology) tick (kept_in was) event)
