-- What nodes put into flight.
use Rattle.std.specs.Prelude.{◌+◌, ◌*◌, ℕ, List, [], ◌∷◌}
use Rattle.mn_wiring.specs.Wiring.{Wiring, link, across}
use Rattle.mn_flight.specs.declared.Item.{Item}
use Rattle.mn_flight.specs.Flying.{off_channel}
use Rattle.mn_node.specs.Ldp.{Message}
use Rattle.mn_node.specs.Machine.{Event, Hears, changed, said}
use Rattle.mn_labels.specs.Labels.{own_labels}
use Rattle.mn_ldp_session.specs.Spelling.{Pdu, pdus, pdu_in_network}
use Rattle.mn_lsr.specs.Turns.{Kept, labels_then}
use Rattle.mn_transport_laws.specs.declared.notice.Notice.{Notice}
use Rattle.mn_timetable_laws.specs.Keys.{channel_from}

-- 1. Notices

-- a change of a link is told to these nodes, one after another
abbrev pub notices_to : ℕ → ℕ → ℕ → List ℕ → List (Item Notice)
notices_to first due number [] = []
notices_to first due number (node ∷ nodes) =
    record { channel = first + node; due = due; number = number; item = record {} } ∷ notices_to first due (number + 1) nodes

-- 2. Messages

-- a node puts PDUs into flight, each due the delay of its link after this tick
abbrev pub put_pdus : Wiring → ℕ → ℕ → ℕ → List Pdu → List (Item (List ℕ))
put_pdus wiring node tick number [] = []
put_pdus wiring node tick number (pdu ∷ pdus) =
    record {
      channel = channel_from wiring pdu.link node;
      due = tick + (link wiring pdu.link).delay;
      number = number;
      item =
          pdu.bytes;
    } ∷ put_pdus wiring node tick (number + 1) pdus

-- the label that a Release brings, which is that of the Withdraw that was received
abbrev pub released_by : Event → ℕ
released_by (Hears l message label) = label
released_by _ = 0

-- what a node says as something happens to it at this tick, in bytes, by the labels that its FECs have then
abbrev pub pdus_in : Wiring → ℕ → Kept → Event → List Pdu
pdus_in wiring tick kept event =
    pdus wiring (own_labels kept.node.me (labels_then wiring tick kept event)) (released_by event) (changed wiring kept.node event)
    (said wiring kept.node event)

-- without the messages of a link, in both directions
abbrev pub off_link : ℕ → List (Item (List ℕ)) → List (Item (List ℕ))
off_link l items = off_channel (2 * l + 1) (off_channel (2 * l) items)

-- what an end of a link says, from the message with this id on, in the bytes of its PDUs, by the labels that each node says of FECs
abbrev pub spelled : Wiring → (ℕ → ℕ → ℕ) → ℕ → ℕ → ℕ → List Message → List (List ℕ)
spelled wiring own l end id [] = []
spelled wiring own l end id (message ∷ messages) =
    (pdu_in_network wiring l end (own end) (own (across wiring l end)) id message).bytes ∷ spelled wiring own l end (id + 1) messages
