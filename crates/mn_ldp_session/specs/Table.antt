-- RFC 5036, section 2.5.4: the states of an end of a session, and what it answers in each.
use Rattle.std.specs.Prelude.{ℕ, ◌==◌, ◌&&◌, not, nat_lt, Bool, true, false, if◌then◌else◌, Option, Some, None, is_some}
use Rattle.mn_states.specs.declared.states.LdpState.{LdpState}
use Rattle.mn_states.specs.declared.states.LdpState.TheVariants.{Initialized, OpenSent, OpenRec, Operational}
use Rattle.mn_ldp_wire.specs.declared.message.LdpId.{LdpId}
use Rattle.mn_ldp_wire.specs.declared.message.LdpBody.{LdpBody}
use Rattle.mn_ldp_wire.specs.declared.message.LdpBody.TheVariants as says
use Rattle.mn_ldp_session.specs.declared.kind.LdpKind.{LdpKind}
use Rattle.mn_ldp_session.specs.declared.kind.LdpKind.TheVariants.{Notification, Initialization, KeepAlive, Address, Mapping, Withdraw, Release}
use Rattle.mn_ldp_session.specs.declared.refusal.SessionBad.{SessionBad}
use Rattle.mn_ldp_session.specs.declared.refusal.SessionBad.TheVariants.{Unexpected, BadParameters}
use Rattle.mn_ldp_session.specs.declared.session.Reply.{Reply}
use Rattle.mn_ldp_session.specs.declared.session.Reply.TheVariants as reply
use Rattle.mn_ldp_session.specs.declared.session.Session.{Session}

abbrev pub kind_of : LdpBody → LdpKind
kind_of (says.Notification status about kind) = Notification
kind_of (says.Initialization version keepalive flags limit greatest receiver) = Initialization
kind_of says.KeepAlive = KeepAlive
kind_of (says.Address addresses) = Address
kind_of (says.Mapping prefix label) = Mapping
kind_of (says.Withdraw prefix label) = Withdraw
kind_of (says.Release prefix label) = Release

-- 1. The table

-- the Initialization is sent
abbrev pub says_initialization : Reply → Bool
says_initialization reply.Initialization = true
says_initialization reply.Both = true
says_initialization _ = false

-- a KeepAlive is sent
abbrev pub says_keepalive : Reply → Bool
says_keepalive reply.Both = true
says_keepalive reply.KeepAlive = true
says_keepalive _ = false

-- the session became OPERATIONAL
abbrev pub begins : Reply → Bool
begins reply.Begins = true
begins _ = false

-- the state and what is received in it; what is sent, and the state then
abbrev pub row : LdpState → LdpKind → Option (Reply × LdpState)
row Initialized Initialization = Some (reply.Both, OpenRec)
row OpenSent Initialization = Some (reply.KeepAlive, OpenRec)
row OpenRec KeepAlive = Some (reply.Begins, Operational)
row Operational KeepAlive = Some (reply.Nothing, Operational)
row Operational Address = Some (reply.Nothing, Operational)
row Operational Mapping = Some (reply.Nothing, Operational)
row Operational Withdraw = Some (reply.Nothing, Operational)
row Operational Release = Some (reply.Nothing, Operational)
row state kind = None

abbrev pub has_row : LdpState → LdpKind → Bool
has_row state kind = is_some (row state kind)

abbrev pub state_after_row : LdpState → Option (Reply × LdpState) → LdpState
state_after_row state None = state
state_after_row state (Some next) = next.1

-- the state after a message; where the table has no row, it stays
abbrev pub then_state : LdpState → LdpKind → LdpState
then_state state kind = state_after_row state (row state kind)

-- 2. What is refused

-- section 2.2.2: the sender is this router, and speaks of the labels of the whole router
abbrev pub is_from : ℕ → LdpId → Bool
is_from router id = (id.lsr == router) && (id.space == 0)

-- section 3.5.3: a session of version 1 with a keepalive time, and for this receiver
abbrev pub is_acceptable : ℕ → LdpBody → Bool
is_acceptable me (says.Initialization version keepalive flags limit greatest receiver) = (version == 1) && (not (keepalive == 0) && is_from me receiver)
is_acceptable me _ = true

-- the first cause for which a message is refused
abbrev pub refusal : Session → LdpId → LdpBody → Option SessionBad
refusal session from body =
    if has_row session.state (kind_of body)
    then (if is_from session.peer from && is_acceptable session.me body then None else Some BadParameters)
    else Some (Unexpected session.state (kind_of body))

-- 3. How a session begins

-- section 2.5.2: the end of greater address is active
abbrev pub opened : ℕ → ℕ → Session
opened me peer = record { me = me; peer = peer; state = if nat_lt peer me then OpenSent else Initialized }

-- the active end says its Initialization
abbrev pub first_kind : Session → Option LdpKind
first_kind session = elim session.state [ Initialized ↦ None | OpenSent ↦ Some Initialization | OpenRec ↦ None | Operational ↦ None ]
