-- The bytes of the files of a run.
use Rattle.std.specs.Prelude.{ℕ, ◌+◌, ◌-◌, ◌==◌, ◌&&◌, List, [], ◌∷◌, ◌++◌, map, length, slice_index_or, Option, Some, None, codes, if◌then◌else◌}
use Rattle.std.specs.List.{flat_map}
use Rattle.std.specs.Fmt.{decimal}
use Rattle.mn_wiring.specs.Wiring.{nodes_of, sender, receiver, across}
use Rattle.mn_text.specs.Addresses.{prefix_text}
use Rattle.mn_pcap.specs.Format.{header, record_of}
use Rattle.mn_stack.specs.Grammar.{stack_bytes}
use Rattle.mn_labels.specs.declared.meaning.Bind.{Bind}
use Rattle.mn_labels.specs.declared.meaning.Bind.TheVariants.{Fec, Site}
use Rattle.mn_labels.specs.declared.meaning.Given.{Given}
use Rattle.mn_topo.specs.Network.{Network, wiring_of}
use Rattle.mn_topo.specs.declared.steps.JournalEntry.{JournalEntry}
use Rattle.mn_journal.specs.Lines.{line_of}
use Rattle.mn_ldp_session.specs.Spelling.{pdu_in_network}
use Rattle.mn_ledger.specs.Places.{loopback}
use Rattle.mn_ledger.specs.World.{Message, Telling}
use Rattle.mn_ledger.specs.Packets.{Token}
use Rattle.mn_ledger.specs.Items.{Channel, Load, Says, Tells, Carries}
use Rattle.mn_ledger.specs.Items as on
use Rattle.mn_frame_laws.specs.Given.{Labelling, given, label_for}
use Rattle.mn_frame_laws.specs.Numbers.{labels_of}
use Rattle.mn_frame_laws.specs.Frames.{stack_of}
use Rattle.mn_bgp_spelling_laws.specs.Spelling.{bytes_in}
use Rattle.mn_lines.specs.Lines.{text}
use Rattle.mn_output_laws.specs.Moments.{Moment, moments_of, journal_then, labels_then, world_then, packets_then, made}
use Rattle.mn_output_laws.specs.Files.{OutputFile, Journal, Labels, Deliveries, Frames, Said, Told, files_of, file_name, node_name}

-- 1. Packets and frames

-- link type 228: a record is an IPv4 packet
abbrev pub raw_ipv4 : ℕ
raw_ipv4 = 228

-- link type 9: a record is a PPP frame
abbrev pub ppp : ℕ
ppp = 9

-- MPLS over PPP: RFC 3032, section 4.3
abbrev pub over_ppp : List ℕ → List ℕ
over_ppp frame = 0x02 ∷ 0x81 ∷ frame

abbrev pub delivery_record : ℕ → Option (List ℕ) → List ℕ
delivery_record tick None = []
delivery_record tick (Some packet) = record_of tick packet

-- the frame in which a packet flies to a node
abbrev pub frame_to : Labelling → ℕ → Token → List ℕ
frame_to given to token = stack_bytes (stack_of given token to) ++ token.bytes

abbrev pub frame_record : Network → Labelling → ℕ → ℕ → Channel × Load → List ℕ
frame_record topology given tick l (on.Frames other dir, Carries token) =
    if other == l then record_of tick (over_ppp (frame_to given (receiver (wiring_of topology) l dir) token)) else []
frame_record topology given tick l made = []

-- 2. LDP

-- the messages that one end says, of all that is made
abbrev pub said_on : ℕ → ℕ → Channel × Load → List Message
said_on l end (on.Messages other speaker, Says message) = if (other == l) && (speaker == end) then message ∷ [] else []
said_on l end made = []

-- the PDU of a message with its id, by the labels that both ends have for FECs
abbrev pub pdu_bytes : Network → Labelling → ℕ → ℕ → ℕ → Message → List ℕ
pdu_bytes topology given l end id message =
    (pdu_in_network (wiring_of topology) l end (label_for given end) (label_for given (across (wiring_of topology) l end)) id message).bytes

-- PDUs one after another, of which the first has this id
abbrev pub pdus : Network → Labelling → ℕ → ℕ → ℕ → List Message → List ℕ
pdus topology given l end id [] = []
pdus topology given l end id (message ∷ messages) = pdu_bytes topology given l end id message ++ pdus topology given l end (id + 1) messages

-- a message's id is its place, from 1, among those that its end has sent in the session's life; the new ones are the last
abbrev pub new_pdus : Network → Moment → ℕ → ℕ → List Message → List ℕ
new_pdus topology now l end messages =
    pdus topology (labels_then topology now) l end (length ((world_then topology now).sessions.said l end) - length messages + 1) messages

-- 3. BGP

abbrev pub told_on : ℕ → ℕ → Channel × Load → List Telling
told_on edge peer (on.Routes teller other, Tells telling) = if (teller == edge) && (other == peer) then telling ∷ [] else []
told_on edge peer made = []

-- 4. What a step adds to a file: its labels are those of the moment

abbrev pub adds : Network → List (List ℕ) → OutputFile → Moment → List ℕ
adds topology capture Journal now = line_of topology now.entry
adds topology capture Labels now = []
adds topology capture Deliveries now = delivery_record now.entry.tick (packets_then topology capture now).delivered
adds topology capture (Frames l) now =
    flat_map (frame_record topology (labels_then topology now) now.entry.tick l) (made topology capture now)
adds topology capture (Said l dir) now =
    let end : ℕ = sender (wiring_of topology) l dir in
    new_pdus topology now l end (flat_map (said_on l end) (made topology capture now))
adds topology capture (Told edge peer) now =
    flat_map (bytes_in topology (labels_of topology (journal_then now)) edge) (flat_map (told_on edge peer) (made topology capture now))

-- 5. Labels: one space for each node, RFC 3031, section 3.14

-- what a label was given for
abbrev pub bind_text : Network → Bind → List ℕ
bind_text topology (Fec node) = text (codes "fec " ∷ prefix_text (record { address = loopback topology node.0; length = 32 }) ∷ [])
bind_text topology (Site site number) = text (codes "site " ∷ slice_index_or topology.site_names site.0 [] ∷ codes " " ∷ decimal number ∷ [])

-- a line for a giving
abbrev pub label_line : Network → ℕ → Given → List ℕ
label_line topology node giving =
    text (node_name topology node ∷ codes " " ∷ decimal giving.label ∷ codes " " ∷ bind_text topology giving.what ∷ codes "\n" ∷ [])

-- a line for each giving of a node, in order; a label that is given again has another line
abbrev pub label_lines : Network → ℕ → List Given → List ℕ
label_lines topology node givings = flat_map (label_line topology node) givings

-- 6. The bytes of a file

-- with what a file begins
abbrev pub head_of : OutputFile → List ℕ
head_of Deliveries = header raw_ipv4
head_of (Frames l) = header ppp
head_of out = []

-- what is written as steps are done
abbrev pub contents : Network → List (List ℕ) → List JournalEntry → OutputFile → List ℕ
contents topology capture entries out = head_of out ++ flat_map (adds topology capture out) (moments_of entries)

-- what is written once no step follows: labels go by node, so a later giving may stand before an earlier one
abbrev pub tail_of : Network → List JournalEntry → OutputFile → List ℕ
tail_of topology entries Labels = flat_map (λ node. label_lines topology node (given topology entries node).given) (nodes_of (wiring_of topology))
tail_of topology entries out = []

abbrev pub whole : Network → List (List ℕ) → List JournalEntry → OutputFile → List ℕ
whole topology capture entries out = contents topology capture entries out ++ tail_of topology entries out

-- the files that a run leaves, in order
abbrev pub output : List ℕ → Network → List (List ℕ) → List JournalEntry → List (List ℕ × List ℕ)
output folder topology capture entries = map (λ out. (file_name folder topology out, whole topology capture entries out)) (files_of topology)
