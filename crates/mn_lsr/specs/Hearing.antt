-- What becomes of bytes that come in on a link.
use Rattle.std.specs.Prelude.{ℕ, ◌≡◌, ◌++◌, List, [], ◌∷◌, Option, Some, None, Result, Ok, Err}
use Rattle.mn_wiring.specs.Wiring.{Wiring, across}
use Rattle.mn_ldp_wire.specs.declared.message.LdpId.{LdpId}
use Rattle.mn_ldp_wire.specs.declared.message.LdpMessage.{LdpMessage}
use Rattle.mn_ldp_wire.specs.declared.refusal.WireBad.{WireBad}
use Rattle.mn_ldp_wire.specs.Message.{PduContents}
use Rattle.mn_ldp_wire.specs.Reading.{pdu_of}
use Rattle.mn_ldp_session.specs.declared.refusal.SessionBad.{SessionBad}
use Rattle.mn_ldp_session.specs.declared.session.Session.{Session}
use Rattle.mn_ldp_session.specs.Table.{kind_of, then_state, refusal}
use Rattle.mn_ldp_session.specs.Spelling.{Pdu, pdus, message_in}
use Rattle.mn_node.specs.Ldp.{Message}
use Rattle.mn_node.specs.Node as node
use Rattle.mn_node.specs.Node.{session_at}
use Rattle.mn_node.specs.Machine.{Hears, loopback_of, changed, said}
use Rattle.mn_labels.specs.Labels.{own_labels}
use Rattle.mn_lsr.specs.Turns.{Kept, labels_then, kept_then}
use Rattle.mn_ldp_wire.specs.declared.message.LdpBody.{LdpBody}
use Rattle.mn_lsr.specs.declared.parts.Open.{Open}
use Rattle.mn_lsr.specs.declared.refusal.LsrBad.{LsrBad}
use Rattle.mn_lsr.specs.declared.refusal.LsrBad.TheVariants as bad

-- a node once it has received something, and what it says then
pub record Heard : Type 0 where
  pub kept : Kept
  pub said : List Pdu

-- all messages are tried on the session, in order
abbrev pub first_refusal : Session → LdpId → List LdpMessage → Option SessionBad
first_refusal session from [] = None
first_refusal session from (message ∷ messages) = elim (refusal session from message.body) [
  | Some why ↦ Some why
  | None ↦ first_refusal (record session { state = then_state session.state (kind_of message.body) }) from messages
]

-- the session of an end accepts the message
abbrev pub Accepts : Option Open → LdpId → LdpBody → Type 0
Accepts None from body = ⊥
Accepts (Some end) from body = refusal end.session from body ≡ None

-- the state machine of an end once the message is received
abbrev pub machine_then : Option Open → LdpBody → Option Session
machine_then None body = None
machine_then (Some end) body = Some (record end.session { state = then_state end.session.state (kind_of body) })

-- a message is received as one change; one that says nothing to the node is passed over
abbrev pub after_message : Wiring → ℕ → ℕ → Kept → Option (Message × ℕ) → Heard
after_message wiring tick l kept None = record { kept = kept; said = [] }
after_message wiring tick l kept (Some message) =
    record {
      kept = kept_then wiring tick kept (Hears l message.0 message.1);
      said =
          pdus wiring (own_labels kept.node.me (labels_then wiring tick kept (Hears l message.0 message.1))) message.1
          (changed wiring kept.node (Hears l message.0 message.1)) (said wiring kept.node (Hears l message.0 message.1));
    }

abbrev pub after_messages : Wiring → ℕ → ℕ → Kept → List LdpMessage → Heard
after_messages wiring tick l kept [] = record { kept = kept; said = [] }
after_messages wiring tick l kept (message ∷ messages) =
    let one : Heard = after_message wiring tick l kept (message_in wiring message.body) in
    let rest : Heard = after_messages wiring tick l one.kept messages in
    record { kept = rest.kept; said = one.said ++ rest.said }

-- the session accepts these messages, one after the other
abbrev pub AcceptsAll : Option Session → LdpId → List LdpMessage → Type 0
AcceptsAll None from messages = ⊥
AcceptsAll (Some session) from messages = first_refusal session from messages ≡ None

-- none of the messages of a PDU is received where one is refused
abbrev pub after_tried : Wiring → ℕ → ℕ → Kept → PduContents → Option SessionBad → Result Heard LsrBad
after_tried wiring tick l kept pdu (Some why) = Err (bad.Session why)
after_tried wiring tick l kept pdu None = Ok (after_messages wiring tick l kept pdu.messages)

abbrev pub after_read : Wiring → ℕ → ℕ → Kept → Session → Result PduContents WireBad → Result Heard LsrBad
after_read wiring tick l kept session (Err why) = Err (bad.Wire why)
after_read wiring tick l kept session (Ok pdu) = after_tried wiring tick l kept pdu (first_refusal session pdu.from pdu.messages)

-- the bytes are read as a PDU, and its messages are tried and received
abbrev pub after_pdu : Wiring → ℕ → ℕ → Kept → Option Session → List ℕ → Result Heard LsrBad
after_pdu wiring tick l kept None bytes = Err bad.NoMemory
after_pdu wiring tick l kept (Some session) bytes = after_read wiring tick l kept session (pdu_of bytes)

-- the session of a link, as the node's end of it tells
abbrev pub session_over : Wiring → ℕ → ℕ → node.Session → Session
session_over wiring l me session = record { me = loopback_of wiring me; peer = loopback_of wiring (across wiring l me); state = session.state }

-- at this tick
abbrev pub after_bytes : Wiring → ℕ → ℕ → Kept → node.Session → List ℕ → Result Heard LsrBad
after_bytes wiring tick l kept session bytes = after_read wiring tick l kept (session_over wiring l kept.node.me session) (pdu_of bytes)
