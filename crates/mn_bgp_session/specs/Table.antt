-- One end of a BGP session: RFC 4271, section 8.2.2, as far as a session in which no timer runs has it.
--
--   state         received               sent       new state
--   OpenSent      OPEN                   KEEPALIVE  OpenConfirm
--   OpenConfirm   KEEPALIVE              routes     Established
--   Established   KEEPALIVE or UPDATE    nothing    Established
use Rattle.std.specs.Prelude.{◌==◌, ◌&&◌, Bool, true, false, if◌then◌else◌, Result, Ok, Err}
use Rattle.mn_states.specs.declared.states.BgpState.{BgpState}
use Rattle.mn_states.specs.declared.states.BgpState.TheVariants.{OpenSent, OpenConfirm, Established}
use Rattle.mn_bgp_wire.specs.declared.message.BgpMessage.{BgpMessage}
use Rattle.mn_bgp_wire.specs.declared.message.BgpMessage.TheVariants as message
use Rattle.mn_bgp_session.specs.declared.table.BgpKind.{BgpKind}
use Rattle.mn_bgp_session.specs.declared.table.BgpKind.TheVariants.{Opening, Update, Notification, KeepAlive}
use Rattle.mn_bgp_session.specs.declared.table.BgpReply.{BgpReply}
use Rattle.mn_bgp_session.specs.declared.refusal.BgpBad.{BgpBad}
use Rattle.mn_bgp_session.specs.declared.refusal.BgpBad.TheVariants.{Unexpected, BadPeer}
use Rattle.mn_bgp_session.specs.declared.session.BgpSession.{BgpSession}

abbrev pub kind_of : BgpMessage → BgpKind
kind_of (message.Opening version asn hold id vpn) = Opening
kind_of (message.Update says) = Update
kind_of (message.Notification code subcode) = Notification
kind_of message.KeepAlive = KeepAlive

-- the table has a row for the state and the kind
abbrev pub has_row : BgpState → BgpKind → Bool
has_row OpenSent Opening = true
has_row OpenConfirm KeepAlive = true
has_row Established KeepAlive = true
has_row Established Update = true
has_row _ _ = false

-- an OPEN is of this AS and peer, which takes VPN-IPv4 routes
abbrev pub is_of_peer : BgpSession → BgpMessage → Bool
is_of_peer session (message.Opening version asn hold id vpn) = (asn == session.asn) && ((id == session.peer) && vpn)
is_of_peer session _ = true

abbrev pub next_state : BgpState → BgpState
next_state OpenSent = OpenConfirm
next_state OpenConfirm = Established
next_state state = state

-- an OPEN is answered by a KEEPALIVE; with the KEEPALIVE in OpenConfirm routes are to be advertised
abbrev pub reply_in : BgpState → BgpReply
reply_in OpenSent = record { say_keep = true; became_established = false }
reply_in OpenConfirm = record { say_keep = false; became_established = true }
reply_in _ = record { say_keep = false; became_established = false }

abbrev pub answer_in : BgpSession → BgpMessage → Result BgpReply BgpBad
answer_in session message =
    if has_row session.state (kind_of message) then if is_of_peer session message then Ok (reply_in session.state) else Err BadPeer else Err
    (Unexpected session.state (kind_of message))

-- refused, a message changes nothing
abbrev pub state_if : Result BgpReply BgpBad → BgpState → BgpState
state_if (Ok reply) state = next_state state
state_if (Err bad) state = state

abbrev pub after_message : BgpSession → BgpMessage → BgpSession
after_message session message = record session { state = state_if (answer_in session message) session.state }
