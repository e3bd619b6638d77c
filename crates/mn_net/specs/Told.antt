-- What a network tells of an item in flight: its channel, when it is due, and its bytes.
use Rattle.std.specs.Prelude.{◌≡◌, ℕ, ◌+◌, ◌-◌, ◌==◌, List, [], ◌∷◌, ◌++◌, length, filter, find, slice_get, Option, option_map}
use Rattle.mn_wiring.specs.Wiring.{across, receiver}
use Rattle.mn_stack.specs.Grammar.{stack_bytes}
use Rattle.mn_topo.specs.Lawful.{IsLawful}
use Rattle.mn_topo.specs.Network.{Network, wiring_of}
use Rattle.mn_topo.specs.declared.steps.JournalEntry.{JournalEntry}
use Rattle.mn_ldp_session.specs.Spelling.{pdu_in_network}
use Rattle.mn_ledger.specs.Ledger.{world_of, packets_of}
use Rattle.mn_ledger.specs.Lawful.{IsLawfulJournal}
use Rattle.mn_ledger.specs.OneMore.{with_packet, made_then}
use Rattle.mn_ledger.specs.Verdicts.{injections}
use Rattle.mn_ledger.specs.Packets.{away_from}
use Rattle.mn_ledger.specs.Items.{Item, Load, Says, Tells, Carries, same_channel, delay_on, flight_of}
use Rattle.mn_ledger.specs.Items as on
use Rattle.mn_frame_laws.specs.Given.{given}
use Rattle.mn_frame_laws.specs.Numbers.{labels_of}
use Rattle.mn_frame_laws.specs.Frames.{stack_of}
use Rattle.mn_transport_laws.specs.Stands.{own_of}
use Rattle.mn_bgp_spelling_laws.specs.Spelling.{bytes_in}
use Rattle.mn_course_laws.specs.declared.coming.Kind.{Kind}
use Rattle.mn_course_laws.specs.Coming.{kind_of, place_of}
use Rattle.mn_net.specs.declared.flight.Channel.{Channel}
use Rattle.mn_net.specs.declared.flight.Channel.TheVariants.{Notice, Ldp, Bgp, Frame}

pub record Told : Type 0 where
  pub kind : Kind
  pub channel : Channel
  pub due : ℕ
  pub bytes : List ℕ

-- the channel of an item; what an end of a link says goes away from it
abbrev pub channel_of : Network → on.Channel → Channel
channel_of topology (on.Notices l node) = Notice (record { 0 = l }) (record { 0 = node })
channel_of topology (on.Messages l end) = Ldp (record { 0 = l }) (away_from topology l end)
channel_of topology (on.Routes edge peer) = Bgp (record { 0 = edge }) (record { 0 = peer })
channel_of topology (on.Frames l dir) = Frame (record { 0 = l }) dir

-- A message of LDP in a PDU of its own, with the label that its FEC has now, whose id is its place, from 1, among those that its
-- end has sent in the session's life: the other end has received so many, and so many are in flight before it (RFC 5036, section
-- 3.5). A message of BGP (RFC 4271, section 4.1). A frame is its stack and then the packet (RFC 3032, section 2.1). A notice has no
-- bytes.
abbrev pub bytes_on : Network → List JournalEntry → ℕ → on.Channel → Load → List ℕ
bytes_on topology journal before (on.Messages l end) (Says message) =
    (pdu_in_network (wiring_of topology) l end (own_of (given topology journal) end) (own_of (given topology journal) (across (wiring_of topology) l end))
    ((world_of topology journal).sessions.heard l (across (wiring_of topology) l end) + before + 1) message).bytes
bytes_on topology journal before (on.Routes edge peer) (Tells telling) = bytes_in topology (labels_of topology journal) edge telling
bytes_on topology journal before (on.Frames l dir) (Carries token) =
    stack_bytes (stack_of (given topology journal) token (receiver (wiring_of topology) l dir)) ++ token.bytes
bytes_on topology journal before _ _ = []

-- what is told of one of these items
abbrev pub item_told : Network → List JournalEntry → List Item → Item → Told
item_told topology journal items item = record {
  kind = kind_of item.on;
  channel = channel_of topology item.on;
  due = item.due;
  bytes = bytes_on topology journal (place_of items item) item.on item.load;
}

-- of the item of a number, if it is in flight
abbrev pub told_at : Network → List JournalEntry → List (List ℕ) → ℕ → Option Told
told_at topology journal inputs number =
    option_map (item_told topology journal (flight_of topology journal inputs).items)
    (find (λ item. item.number == number) (flight_of topology journal inputs).items)

-- What a step has made, as it is told once it is done, with this journal; so many of it are on the channel from here on. A message
-- of LDP is the last but so many that its end has sent.
abbrev pub bytes_made : Network → List JournalEntry → ℕ → on.Channel → Load → List ℕ
bytes_made topology journal left (on.Messages l end) (Says message) =
    (pdu_in_network (wiring_of topology) l end (own_of (given topology journal) end) (own_of (given topology journal) (across (wiring_of topology) l end))
    (length ((world_of topology journal).sessions.said l end) - left + 1) message).bytes
bytes_made topology journal left on load = bytes_on topology journal 0 on load

abbrev pub count_made : on.Channel → List (on.Channel × Load) → ℕ
count_made channel made = length (filter (λ (item : on.Channel × Load). same_channel channel item.0) made)

abbrev pub told_made : Network → List JournalEntry → ℕ → List (on.Channel × Load) → List Told
told_made topology journal tick [] = []
told_made topology journal tick (made ∷ rest) = record {
  kind = kind_of made.0;
  channel = channel_of topology made.0;
  due = tick + delay_on topology made.0;
  bytes = bytes_made topology journal (count_made made.0 (made ∷ rest)) made.0 made.1;
} ∷ told_made topology journal tick rest

-- the items that the last step made are told by their numbers, in order, and none behind them
abbrev pub MadeIsTold : Type 0
MadeIsTold = (topology : Network) (entries : List JournalEntry) (inputs : List (List ℕ)) (entry : JournalEntry) (bytes : List ℕ) (k : ℕ) →
    IsLawful topology → length inputs ≡ injections entries → IsLawfulJournal topology (entries ++ entry ∷ []) (with_packet entry.step bytes inputs) →
    told_at topology (entries ++ entry ∷ []) (with_packet entry.step bytes inputs) ((flight_of topology entries inputs).made + k)
    ≡ slice_get (told_made topology (entries ++ entry ∷ []) entry.tick
    (made_then topology (world_of topology entries) (packets_of topology entries inputs) entry bytes)) k
