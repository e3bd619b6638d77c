-- What a session replies, and what its end means to the bindings.
use Rattle.std.specs.Prelude.{ℕ, Bool, true, ◌++◌, if◌then◌else◌, List, [], ◌∷◌, Option, Some, None}
use Rattle.mn_base.specs.declared.numbers.NodeNo.{NodeNo}
use Rattle.mn_states.specs.declared.states.LdpState.{LdpState}
use Rattle.mn_states.specs.declared.states.LdpState.TheVariants.{OpenSent, Operational}
use Rattle.mn_ldp_session.specs.declared.session.Reply.{Reply}
use Rattle.mn_ldp_session.specs.declared.session.Reply.TheVariants as says
use Rattle.mn_ldp_session.specs.Table.{says_initialization, says_keepalive, begins}
use Rattle.mn_bindings.specs.declared.event.LibEvent.{LibEvent}
use Rattle.mn_bindings.specs.declared.event.LibEvent.TheVariants as event
use Rattle.mn_node.specs.Ldp.{Message, Initialization, KeepAlive, Address, Mapping, Withdraw, Release}
use Rattle.mn_lsr.specs.declared.parts.Open.{Open}

abbrev pub replied : Reply → List Message
replied reply =
    (if says_initialization reply then Initialization ∷ [] else []) ++
    ((if says_keepalive reply then KeepAlive ∷ [] else []) ++ (if begins reply then Address ∷ [] else []))

abbrev pub first_reply : LdpState → Reply
first_reply OpenSent = says.Initialization
first_reply _ = says.Nothing

abbrev pub closing_by : LdpState → NodeNo → List LibEvent
closing_by Operational far = event.Closed far ∷ []
closing_by _ far = []

-- a neighbour whose session was OPERATIONAL is closed
abbrev pub closing_events : Option Open → NodeNo → List LibEvent
closing_events None far = []
closing_events (Some end) far = closing_by end.session.state far

-- what a message that brings a label means to the bindings and to what is owed, where the session began by it or not
abbrev pub heard_by : NodeNo → Bool → Message → ℕ → List LibEvent
heard_by far true KeepAlive label = event.Opened far ∷ []
heard_by far began (Mapping fec) label = event.Map far (record { 0 = fec }) label ∷ []
heard_by far began (Withdraw fec) label = event.Withdraw far (record { 0 = fec }) ∷ []
heard_by far began (Release fec) label = event.Released far (record { 0 = fec }) ∷ []
heard_by far _ _ label = []
