-- What each node knows of the links, and what the ends of LDP sessions say: RFC 5036, sections 2.5.4, 2.6.1 to 2.6.3
-- and appendix A, in downstream unsolicited mode with ordered control and liberal retention (RFC 3031, sections 3.7, 3.8 and
-- 3.19). The next hop is that of a least walk: hop by hop routing, RFC 3031, section 3.21.
use Rattle.std.specs.Prelude.{ℕ, ◌+◌, ◌%◌, ◌==◌, ◌&&◌, Bool, true, false, not, if◌then◌else◌, List, [], ◌∷◌, ◌++◌, map, take, filter, slice_index_or, Option}
use Rattle.std.specs.List.{flat_map}
use Rattle.mn_topo.specs.Wiring.{Wiring, View, nodes_of, links_of, link, is_end, across, sender, receiver}
use Rattle.mn_node.specs.LdpState.{LdpState}
use Rattle.mn_topo.specs.Network.{Network, wiring_of}
use Rattle.mn_topo.specs.declared.steps.Step.{Step}
use Rattle.mn_topo.specs.declared.steps.Step.TheVariants.{LinkUp, LinkDown, Learn, LdpAdmin, HearLdp}
pub use Rattle.mn_node.specs.Ldp.{Said, is_by, messages_of, said_on, state_by, answer, Hearing, Knowledge, hearing, is_operational, mapped_after, is_mapped}
pub use Rattle.mn_node.specs.Ldp.{usable_over, usable_by, offers, offered, mention, by_neighbour, mentioned_on, mentioned_from}
unfoldable pub use Rattle.mn_node.specs.Ldp.{news}
use Rattle.mn_node.specs.Machine.{speaks_first}
use Rattle.mn_ledger.specs.Tables.{put, put_pair}
use Rattle.mn_ledger.specs.World.{Config, Views, Sessions, World, Message, Initialization, Address}

-- 1. Views

-- a change of a link counts, and each node learns of it by a step of its own
abbrev pub views_after : Views → Step → Views
views_after views (LinkUp l) = record views { changes = put views.changes l.0 (views.changes l.0 + 1) }
views_after views (LinkDown l) = record views { changes = put views.changes l.0 (views.changes l.0 + 1) }
views_after views (Learn node l) = record views { learned = put_pair views.learned node.0 l.0 (views.learned node.0 l.0 + 1) }
views_after views _ = views

-- a node takes a link for up where it has learned an odd number of its changes
abbrev pub view_of : Wiring → Views → ℕ → View
view_of wiring views node = map (λ l. views.learned node l % 2 == 1) (links_of wiring)

-- 2. The state of an end

-- the session of a link lives while the link is up and LDP is switched on for it
abbrev pub lives : Config → ℕ → Bool
lives config l = config.is_up l && config.ldp_on l

-- the end of greater address is the active one: RFC 5036, section 2.5.2
abbrev pub is_active : Network → ℕ → ℕ → Bool
is_active topology l node = speaks_first (wiring_of topology) l node

-- of an end whose session lives; of another it says nothing
abbrev pub ldp_state_of : Network → Sessions → ℕ → ℕ → LdpState
ldp_state_of topology sessions l node = state_by (is_active topology l node) (sessions.heard l node)

-- what an end has received from the other
abbrev pub heard_by : Wiring → Sessions → ℕ → ℕ → List Message
heard_by wiring sessions l node = take (sessions.heard l node) (sessions.said l (across wiring l node))

-- 3. What a node knows, and where it can send

abbrev pub hearing_at : Wiring → Config → Sessions → ℕ → ℕ → Hearing
hearing_at wiring config sessions node l =
    record { alive = lives config l && is_end wiring l node; count = sessions.heard l node; messages = heard_by wiring sessions l node }

unfoldable pub knowledge_of : Wiring → Config → Views → Sessions → ℕ → Knowledge
knowledge_of wiring config views sessions node =
    record { view = view_of wiring views node; hearings = map (hearing_at wiring config sessions node) (links_of wiring) }

-- what a node knows in this world
abbrev pub known : Network → World → ℕ → Knowledge
known topology world node = knowledge_of (wiring_of topology) world.config world.views world.sessions node

-- where a node can send towards another in this world
abbrev pub usable : Network → Config → Views → Sessions → ℕ → ℕ → Option (ℕ × ℕ)
usable topology config views sessions node fec = usable_by (wiring_of topology) (knowledge_of (wiring_of topology) config views sessions node) node fec

-- 4. What is sent

-- the active end sends Initialization as a life begins
abbrev pub opening : Network → Config → ℕ → List Said
opening topology config l =
    let ends = link (wiring_of topology) l in
    elim (lives config l) [
      | true ↦ said_on l (if is_active topology l ends.a.0 then ends.a.0 else ends.b.0) (Initialization ∷ [])
      | false ↦ []
    ]

-- the end receives the other's next message, and answers it
abbrev pub answered : Network → Sessions → ℕ → ℕ → ℕ → List Said
answered topology sessions l node other =
    said_on l node (answer (ldp_state_of topology sessions l node) (slice_index_or (sessions.said l other) (sessions.heard l node) Address))

-- what the step itself makes its ends say, with the sessions as they were and switches as they are now
abbrev pub ldp_replies : Network → Config → Sessions → Step → List Said
ldp_replies topology config sessions (LinkUp l) = opening topology config l.0
ldp_replies topology config sessions (LdpAdmin l on) = opening topology config l.0
ldp_replies topology config sessions (HearLdp l dir) =
    answered topology sessions l.0 (receiver (wiring_of topology) l.0 dir) (sender (wiring_of topology) l.0 dir)
ldp_replies topology config sessions _ = []

-- all nodes, in the order in which they speak: where a session begins or ends the link's end `a` first, and then its end `b`
abbrev pub ends_first : Wiring → ℕ → List ℕ
ends_first wiring l = (link wiring l).a.0 ∷ (link wiring l).b.0 ∷ filter (λ node. not (is_end wiring l node)) (nodes_of wiring)

abbrev pub speakers : Wiring → Step → List ℕ
speakers wiring (LinkUp l) = ends_first wiring l.0
speakers wiring (LinkDown l) = ends_first wiring l.0
speakers wiring (LdpAdmin l on) = ends_first wiring l.0
speakers wiring _ = nodes_of wiring

-- all that is sent in a step, in the order of sending
abbrev pub said_in : Network → Config → Views → Sessions → Config → Views → Sessions → Step → List Said
said_in topology config views sessions new_config new_views new_sessions step =
    let wiring = wiring_of topology in
    ldp_replies topology new_config sessions step
    ++ flat_map (λ node. news wiring (knowledge_of wiring config views sessions node) (knowledge_of wiring new_config new_views new_sessions node) node)
    (speakers wiring step)

-- 5. The sessions after a step

-- a life of the link's session ends, or begins: nothing is sent or received in it
abbrev pub ldp_restarted : Sessions → ℕ → Sessions
ldp_restarted sessions l = record { said = put sessions.said l (λ node. []); heard = put sessions.heard l (λ node. 0) }

-- lives and counts, before anything is sent
abbrev pub ldp_counted : Network → Sessions → Step → Sessions
ldp_counted topology sessions (LinkUp l) = ldp_restarted sessions l.0
ldp_counted topology sessions (LinkDown l) = ldp_restarted sessions l.0
ldp_counted topology sessions (LdpAdmin l on) = ldp_restarted sessions l.0
ldp_counted topology sessions (HearLdp l dir) = let node = receiver (wiring_of topology) l.0 dir in
    record sessions { heard = put_pair sessions.heard l.0 node (sessions.heard l.0 node + 1) }
ldp_counted topology sessions _ = sessions

-- the sessions once all these are sent
abbrev pub with_said : Sessions → List Said → Sessions
with_said sessions sayings = record sessions { said = λ l node. sessions.said l node ++ messages_of l node sayings }

abbrev pub spoken : Network → Config → Views → Config → Views → Sessions → Step → Sessions
spoken topology config views new_config new_views sessions step =
    with_said (ldp_counted topology sessions step) (said_in topology config views sessions new_config new_views (ldp_counted topology sessions step) step)

-- the steps that change sessions
abbrev pub is_transport : Step → Bool
is_transport (LinkUp l) = true
is_transport (LinkDown l) = true
is_transport (LdpAdmin l on) = true
is_transport (Learn node l) = true
is_transport (HearLdp l dir) = true
is_transport _ = false

unfoldable pub sessions_after : Network → Config → Views → Config → Views → Sessions → Step → Sessions
sessions_after topology config views new_config new_views sessions (LinkUp l) = spoken topology config views new_config new_views sessions (LinkUp l)
sessions_after topology config views new_config new_views sessions (LinkDown l) = spoken topology config views new_config new_views sessions (LinkDown l)
sessions_after topology config views new_config new_views sessions (LdpAdmin l on) = spoken topology config views new_config new_views sessions (LdpAdmin l on)
sessions_after topology config views new_config new_views sessions (Learn node l) = spoken topology config views new_config new_views sessions (Learn node l)
sessions_after topology config views new_config new_views sessions (HearLdp l dir) = spoken topology config views new_config new_views sessions (HearLdp l dir)
sessions_after topology config views new_config new_views sessions _ = sessions
