-- What a node says and receives inside the network, where the other end of a session is a node too.
use Rattle.std.specs.Prelude.{ℕ, ◌+◌, ◌≡◌, ◌<◌, true, length, List, [], ◌∷◌, Ok, Some, ⊤}
use Rattle.std.specs.List.{AllByRecursion}
use Rattle.mn_wiring.specs.Wiring.{Wiring, across}
use Rattle.mn_node.specs.Ldp.{Message, Said, has_ldp_row}
use Rattle.mn_node.specs.Node.{Session, Node, session_at}
use Rattle.mn_node.specs.Machine.{Event, Hears, changed, said}
use Rattle.mn_ldp_session.specs.Spelling.{Pdu, pdus, pdu_in_network, count_of, one_said, label_with, SpeaksOfNode, HasItsLabel}
use Rattle.mn_lsr.specs.Turns.{Kept}
use Rattle.mn_lsr.specs.Hearing.{after_message, after_bytes}

-- by node the labels that its FECs have
abbrev pub Labelling : Type 0
Labelling = ℕ → ℕ → ℕ

-- a message that is received was sent by the other end: it speaks of a node, and brings that end's label
abbrev pub IsHeardInside : Wiring → Labelling → Node → Event → Type 0
IsHeardInside wiring given node (Hears l message label) = SpeaksOfNode wiring message × (label ≡ label_with (given (across wiring l node.me)) message)
IsHeardInside wiring given node _ = ⊤

abbrev pub SpeakOfNodes : Wiring → List Said → Type 0
SpeakOfNodes wiring sayings = AllByRecursion (λ saying. SpeaksOfNode wiring saying.message) sayings

-- the label that a Release brings, where one is sent: that of the Withdraw
abbrev pub label_withdrawn : Event → ℕ
label_withdrawn (Hears l message label) = label
label_withdrawn _ = 0

-- what is sent, each message as it looks inside the network
abbrev pub pdus_in_network : Wiring → Labelling → Node → List Said → List Pdu
pdus_in_network wiring given node [] = []
pdus_in_network wiring given node (saying ∷ sayings) =
    pdu_in_network wiring saying.link node.me (given node.me) (given (across wiring saying.link node.me)) (count_of (session_at node saying.link) + 1)
    saying.message
    ∷ pdus_in_network wiring given (one_said node saying.link) sayings

-- a node speaks of nodes, and what it says looks as it does inside the network
pub record SpeaksInside (wiring : Wiring) (given : Labelling) (node : Node) (event : Event) : Type 0 where
  pub nodes : SpeakOfNodes wiring (said wiring node event)
  pub looks : pdus wiring (given node.me) (label_withdrawn event) (changed wiring node event) (said wiring node event)
      ≡ pdus_in_network wiring given (changed wiring node event) (said wiring node event)

-- what one end says the other end receives as one change, where the table has a row for it
abbrev pub IsHeardAsOne : Wiring → Labelling → ℕ → ℕ → ℕ → ℕ → Message → Kept → Session → Type 0
IsHeardAsOne wiring given tick l far id message kept session =
    after_bytes wiring tick l kept session (pdu_in_network wiring l far (given far) (given kept.node.me) id message).bytes
    ≡ Ok (after_message wiring tick l kept (Some (message, label_with (given far) message)))

-- an end of a link, the other end, and a message that the other end may say now
pub record MayBeHeard (wiring : Wiring) (given : Labelling) (l far : ℕ) (message : Message) (node : Node) (session : Session) : Type 0 where
  pub me : node.me < length wiring.loopbacks
  pub far_is_node : far < length wiring.loopbacks
  pub other_end : across wiring l node.me ≡ far
  pub this_end : across wiring l far ≡ node.me
  pub of_node : SpeaksOfNode wiring message
  pub its : HasItsLabel (given far) (given node.me) message
  pub row : has_ldp_row session.state message ≡ true
