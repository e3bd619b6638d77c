-- Which labels a node's FECs have as something happens to it, and since when they rest: RFC 3031, section 3.14; RFC 5036,
-- sections 3.5.10 and 3.5.11.
use Rattle.std.specs.Prelude.{ℕ, ◌==◌, ◌&&◌, Bool, not, List, [], ◌∷◌, filter, Option, Some}
use Rattle.mn_wiring.specs.Wiring.{Wiring, across, nodes_of}
use Rattle.mn_states.specs.declared.states.LdpState.{LdpState}
use Rattle.mn_states.specs.declared.states.LdpState.TheVariants.{OpenRec, Operational}
use Rattle.mn_labels.specs.Labels.{Labels, offered}
use Rattle.mn_releases.specs.Rests.{Resting, opened, closed, withdrawn, released, is_over}
use Rattle.mn_bindings.specs.Known.{all_stopped}
use Rattle.mn_node.specs.Ldp.{Message, KeepAlive, Withdraw, Release, Said, Knowledge, offers}
use Rattle.mn_node.specs.Node.{Node, session_at, knowledge_in}
use Rattle.mn_node.specs.Machine.{Event, Closes, Hears, changed, said, after_event}
use Rattle.mn_lsr.specs.Standing.{Standing, state_in}

-- what a node keeps: of links and sessions, which labels it gave, and since when its FECs are at rest
pub record Kept : Type 0 where
  pub node : Node
  pub labels : Labels
  pub resting : Resting

abbrev pub kept_in : Standing → Kept
kept_in standing = record { node = standing.node; labels = standing.labels; resting = standing.resting }

-- 1. Labels

-- the other nodes' FECs that a node with this knowledge offers, and with that before didn't, in node order
abbrev pub begins_offer : Wiring → Knowledge → Knowledge → ℕ → ℕ → Bool
begins_offer wiring before after me fec = not (fec == me) && (not (offers wiring before me fec) && offers wiring after me fec)

abbrev pub new_offers : Wiring → Knowledge → Knowledge → ℕ → List ℕ
new_offers wiring before after me = filter (begins_offer wiring before after me) (nodes_of wiring)

-- the node doesn't offer the FEC, no neighbour owes a Release of it, and no frame that was sent before flies any more
abbrev pub is_free_at : Wiring → ℕ → Kept → ℕ → Bool
is_free_at wiring tick kept fec = not (offers wiring (knowledge_in kept.node) kept.node.me fec) && is_over kept.resting tick fec

abbrev pub labels_then : Wiring → ℕ → Kept → Event → Labels
labels_then wiring tick kept event =
    offered (is_free_at wiring tick kept) kept.labels
    (new_offers wiring (knowledge_in kept.node) (knowledge_in (changed wiring kept.node event)) kept.node.me)

-- 2. Rest

-- a session that was OPERATIONAL ends
abbrev pub rested_by_end : ℕ → Option LdpState → ℕ → Resting → Resting
rested_by_end tick (Some Operational) far resting = closed resting far tick
rested_by_end tick _ far resting = resting

-- the KeepAlive that makes a session OPERATIONAL, section 2.5.4; a Release
abbrev pub rested_by_message : ℕ → Message → Option LdpState → ℕ → Resting → Resting
rested_by_message tick KeepAlive (Some OpenRec) far resting = opened resting far
rested_by_message tick (Release fec) state far resting = released resting far fec tick
rested_by_message tick message state far resting = resting

abbrev pub rested_by_event : Wiring → ℕ → Node → Event → Resting → Resting
rested_by_event wiring tick node (Closes l) resting = rested_by_end tick (state_in (session_at node l)) (across wiring l node.me) resting
rested_by_event wiring tick node (Hears l message label) resting =
    rested_by_message tick message (state_in (session_at node l)) (across wiring l node.me) resting
rested_by_event wiring tick node _ resting = resting

-- for each Withdraw that is sent a Release is owed
abbrev pub owed_for_message : Message → ℕ → Resting → Resting
owed_for_message (Withdraw fec) far resting = withdrawn resting far fec
owed_for_message _ far resting = resting

abbrev pub owed_for_said : Wiring → ℕ → Resting → List Said → Resting
owed_for_said wiring me resting [] = resting
owed_for_said wiring me resting (saying ∷ sayings) =
    owed_for_said wiring me (owed_for_message saying.message (across wiring saying.link me) resting) sayings

-- the FECs that a node with this knowledge doesn't offer any more, in node order
abbrev pub ends_offer : Wiring → Knowledge → Knowledge → ℕ → ℕ → Bool
ends_offer wiring before after me fec = offers wiring before me fec && not (offers wiring after me fec)

abbrev pub ended_offers : Wiring → Knowledge → Knowledge → ℕ → List ℕ
ended_offers wiring before after me = filter (ends_offer wiring before after me) (nodes_of wiring)

abbrev pub resting_then : Wiring → ℕ → Kept → Event → Resting
resting_then wiring tick kept event =
    all_stopped tick
    (owed_for_said wiring kept.node.me (rested_by_event wiring tick kept.node event kept.resting) (said wiring kept.node event))
    (ended_offers wiring (knowledge_in kept.node) (knowledge_in (changed wiring kept.node event)) kept.node.me)

-- 3. Both

abbrev pub kept_then : Wiring → ℕ → Kept → Event → Kept
kept_then wiring tick kept event = record {
  node = after_event wiring kept.node event;
  labels = labels_then wiring tick kept event;
  resting = resting_then wiring tick kept event;
}
