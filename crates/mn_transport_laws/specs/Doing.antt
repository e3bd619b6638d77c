-- What the transport does in a step, before it is known to be the ledger's.
use Rattle.std.specs.Prelude.{◌≡◌, ◌≢◌, ◌<◌, ◌+◌, ◌*◌, ℕ, Bool, true, false, ◌++◌, length, slice_get, slice_index, slice_set, Some}
use Rattle.mn_wiring.specs.Wiring.{link, receiver, nodes_of}
use Rattle.mn_wiring.specs.declared.links.Dir.{Dir}
use Rattle.mn_flight.specs.Flying.{on_channel, without}
use Rattle.mn_linkdb.specs.Changes.{is_link_up}
use Rattle.mn_node.specs.Machine.{Event, Learns}
use Rattle.mn_topo.specs.Network.{Network, wiring_of}
use Rattle.mn_ledger.specs.Packets.{channel}
use Rattle.mn_transport_laws.specs.Carried.{Carried}
use Rattle.mn_transport_laws.specs.Sending.{notices_to, off_link}
use Rattle.mn_transport_laws.specs.Acting.{turned_by, MayAct, MayHear, Acts}

-- both ends of a link act, `a` first
pub record TurnsEnds (topology : Network) (tick number l : ℕ) (event : Event) (old new : Carried) (next : ℕ) : Type 0 where
  pub middle : Carried
  pub second_number : ℕ
  pub first : Acts topology tick number (link (wiring_of topology) l).a.0 event old middle second_number
  pub second : Acts topology tick second_number (link (wiring_of topology) l).b.0 event middle new next

abbrev pub TurnsIf : Bool → Network → ℕ → ℕ → ℕ → Event → Carried → Carried → ℕ → Type 0
TurnsIf true topology tick number l event old new next = TurnsEnds topology tick number l event old new next
TurnsIf false topology tick number l event old new next = (new ≡ old) × (next ≡ number)

-- both ends may act
pub record MayBoth (topology : Network) (carried : Carried) (l : ℕ) (event : Event) : Type 0 where
  pub a : MayAct topology carried (link (wiring_of topology) l).a.0 event
  pub b : MayAct topology carried (link (wiring_of topology) l).b.0 event

-- 1. A link comes up or goes down

pub record MayTurn (topology : Network) (carried : Carried) (l : ℕ) (up : Bool) : Type 0 where
  pub link : l < length topology.links
  pub links : length carried.changes ≡ length topology.links
  pub each : length carried.nodes ≡ length topology.loopbacks
  pub switched : length carried.switches ≡ length topology.links
  pub turns : is_link_up carried.changes l ≢ up
  pub both : slice_get carried.switches l ≡ Some true → MayBoth topology carried l (turned_by up l)

-- all are told, and nothing flies on the link
abbrev pub told : Network → ℕ → ℕ → ℕ → Carried → Carried
told topology tick number l carried = record carried {
  changes = slice_set carried.changes l (slice_index carried.changes l + 1);
  notices = carried.notices ++ notices_to (l * length topology.loopbacks) (tick + topology.notice_delay) number (nodes_of (wiring_of topology));
  messages = off_link l carried.messages;
}

pub record TurnsLink (topology : Network) (tick number l : ℕ) (up : Bool) (old new : Carried) (next : ℕ) : Type 0 where
  pub on : Bool
  pub switch : slice_get old.switches l ≡ Some on
  pub session : TurnsIf on topology tick (number + length topology.loopbacks) l (turned_by up l) (told topology tick number l old) new next

-- 2. LDP is switched on or off for a link

pub record MaySwitch (topology : Network) (carried : Carried) (l : ℕ) (on : Bool) : Type 0 where
  pub link : l < length topology.links
  pub links : length carried.changes ≡ length topology.links
  pub switched : length carried.switches ≡ length topology.links
  pub both : is_link_up carried.changes l ≡ true → MayBoth topology carried l (turned_by on l)

abbrev pub switched : ℕ → Bool → Carried → Carried
switched l on carried = record carried { switches = slice_set carried.switches l on; messages = off_link l carried.messages }

abbrev pub Switches : Network → ℕ → ℕ → ℕ → Bool → Carried → Carried → ℕ → Type 0
Switches topology tick number l on old new next = TurnsIf (is_link_up old.changes l) topology tick number l (turned_by on l) (switched l on old) new next

-- 3. A node learns

-- the first notice to the node is gone
abbrev pub noticed : Network → ℕ → ℕ → Carried → Carried
noticed topology node l carried =
    record carried { notices = without (slice_get (on_channel (l * length topology.loopbacks + node) carried.notices) 0) carried.notices }

abbrev pub LearnsNext : Network → ℕ → ℕ → ℕ → ℕ → Carried → Carried → ℕ → Type 0
LearnsNext topology tick number node l old new next = Acts topology tick number node (Learns l) (noticed topology node l old) new next

-- 4. A node receives

-- the first PDU of the direction is gone
abbrev pub taken : ℕ → Dir → Carried → Carried
taken l dir carried = record carried { messages = without (slice_get (on_channel (channel l dir) carried.messages) 0) carried.messages }

pub record CanHear (topology : Network) (carried : Carried) (l : ℕ) (dir : Dir) : Type 0 where
  pub event : Event
  pub may : MayHear topology carried l dir event

abbrev pub HearsNext : Network → ℕ → ℕ → ℕ → Dir → Event → Carried → Carried → ℕ → Type 0
HearsNext topology tick number l dir event old new next = Acts topology tick number (receiver (wiring_of topology) l dir) event (taken l dir old) new next
