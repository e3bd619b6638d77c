-- Whole files by what the ledger lists over a whole journal.
use Rattle.std.specs.Prelude.{List, ℕ, ◌-◌, [], ◌∷◌, ◌++◌, map}
use Rattle.std.specs.List.{flat_map, zip}
use Rattle.mn_pcap.specs.Format.{header, record_of}
use Rattle.mn_topo.specs.Network.{Network}
use Rattle.mn_topo.specs.declared.steps.JournalEntry.{JournalEntry}
use Rattle.mn_ledger.specs.World.{Message, Telling}
use Rattle.mn_ledger.specs.Items.{Messages, Routes, Load, Says, Tells, Item, items_on, loads_on, delay_on, made_by}
use Rattle.mn_ledger_laws.specs.Deliveries.{Delivery, deliveries_of}
use Rattle.mn_ledger_laws.specs.Ids.{ids_of}
use Rattle.mn_frame_laws.specs.Given.{Labelling}
use Rattle.mn_frame_laws.specs.Numbers.{labels_of}
use Rattle.mn_bgp_spelling_laws.specs.Spelling.{bytes_in}
use Rattle.mn_course_laws.specs.Course.{inputs_of}
use Rattle.mn_output_laws.specs.Moments.{labels_when}
use Rattle.mn_output_laws.specs.Contents.{raw_ipv4, ppp, frame_record, pdu_bytes}

-- 1. Deliveries

-- the record of a packet that was delivered, with its tick
abbrev pub delivery_bytes : Delivery → List ℕ
delivery_bytes delivery = record_of delivery.tick delivery.bytes

-- the header, and the record of each packet that the journal delivered, in order
abbrev pub deliveries_file : Network → List (List ℕ) → List JournalEntry → List ℕ
deliveries_file topology capture entries =
    header raw_ipv4 ++ flat_map delivery_bytes (deliveries_of topology entries (inputs_of capture entries))

-- 2. LDP: RFC 5036, section 3.5

-- a message that an end sent, and the number of its item
pub record Saying : Type 0 where
  pub number : ℕ
  pub message : Message

abbrev pub saying_in : ℕ → Load → List Saying
saying_in number (Says message) = record { number = number; message = message } ∷ []
saying_in number load = []

-- all that an end says over a link, in all lives of the session, in order
abbrev pub all_said : Network → List JournalEntry → List (List ℕ) → ℕ → ℕ → List Saying
all_said topology entries inputs l end = flat_map (λ item. saying_in item.number item.load) (items_on (Messages l end) (made_by topology entries inputs))

abbrev pub messages_in : List Saying → List Message
messages_in sayings = map (λ saying. saying.message) sayings

-- the PDU of what was sent, with its id, by the labels of the moment at which it was sent
abbrev pub said_pdu : Network → (ℕ → Labelling) → ℕ → ℕ → ℕ × Saying → List ℕ
said_pdu topology labels l end said = pdu_bytes topology (labels said.1.number) l end said.0 said.1.message

-- each message with its id, which in each life starts with 1
abbrev pub said_bytes : Network → (ℕ → Labelling) → ℕ → ℕ → List Saying → List ℕ
said_bytes topology labels l end sayings = flat_map (said_pdu topology labels l end) (zip (ids_of (messages_in sayings)) sayings)

abbrev pub said_file : Network → List (List ℕ) → List JournalEntry → ℕ → ℕ → List ℕ
said_file topology capture entries l end =
    said_bytes topology (labels_when topology capture entries) l end (all_said topology entries (inputs_of capture entries) l end)

-- 3. Frames: RFC 3032, sections 2.1 and 4.3

-- the record of a frame that was sent over the link, by its delay before it was due, with the labels of that moment
abbrev pub sent_bytes : Network → (ℕ → Labelling) → ℕ → Item → List ℕ
sent_bytes topology labels l item = frame_record topology (labels item.number) (item.due - delay_on topology item.on) l (item.on, item.load)

-- the header, and the record of each frame that was sent over the link in either direction
abbrev pub frames_file : Network → List (List ℕ) → List JournalEntry → ℕ → List ℕ
frames_file topology capture entries l =
    header ppp ++ flat_map (sent_bytes topology (labels_when topology capture entries) l) (made_by topology entries (inputs_of capture entries))

-- 4. BGP: RFC 4271, section 4

abbrev pub telling_in : Load → List Telling
telling_in (Tells telling) = telling ∷ []
telling_in load = []

-- all that an edge sends a peer, in all lives of the session, in order
abbrev pub all_told : Network → List JournalEntry → List (List ℕ) → ℕ → ℕ → List Telling
all_told topology entries inputs edge peer = flat_map telling_in (loads_on (Routes edge peer) (made_by topology entries inputs))

-- the bytes of each of these messages, with the labels of the whole journal: an attachment keeps its label
abbrev pub told_file : Network → List (List ℕ) → List JournalEntry → ℕ → ℕ → List ℕ
told_file topology capture entries edge peer =
    flat_map (bytes_in topology (labels_of topology entries) edge) (all_told topology entries (inputs_of capture entries) edge peer)
