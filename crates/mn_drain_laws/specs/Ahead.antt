-- What lies ahead of the hearings of LDP messages, once all nodes have learned of all changes: a number that each hearing
-- lowers.
use Rattle.std.specs.Prelude.{ℕ, zero, suc, ◌+◌, ◌&&◌, List, [], ◌∷◌, drop, length}
use Rattle.mn_wiring.specs.Wiring.{Wiring, View, is_end, across}
use Rattle.mn_ledger.specs.World.{Config, Sessions, Message, Mapping, Withdraw}
use Rattle.mn_ledger.specs.Transport.{lives}
use Rattle.mn_drain_laws.specs.Sums.{total, where_so}
use Rattle.mn_drain_laws.specs.Weights.{mention_weight}

-- a message that the node is to receive on the link
abbrev pub message_weight : Wiring → View → ℕ → ℕ → Message → ℕ
message_weight wiring view l node (Mapping fec) = mention_weight wiring view fec l node
message_weight wiring view l node (Withdraw fec) = mention_weight wiring view fec l node
message_weight wiring view l node _ = 1

-- the sum over messages
abbrev pub measured : (Message → ℕ) → List Message → ℕ
measured size [] = 0
measured size (message ∷ messages) = size message + measured size messages

abbrev pub messages_weight : Wiring → View → ℕ → ℕ → List Message → ℕ
messages_weight wiring view l node messages = measured (message_weight wiring view l node) messages

-- one mention of each FEC
abbrev pub all_mentions_weight : Wiring → View → ℕ → ℕ → ℕ
all_mentions_weight wiring view l node = total (length wiring.loopbacks) (λ fec. mention_weight wiring view fec l node)

-- what an end has still to say before it is OPERATIONAL and as it becomes so, by how many messages it has received: Initialization
-- and KeepAlive, and then Address and a Mapping of each FEC
abbrev pub greeting_weight : ℕ → ℕ → ℕ
greeting_weight zero mentions = 3 + mentions
greeting_weight (suc zero) mentions = 1 + mentions
greeting_weight (suc (suc more)) mentions = 0

-- what the other end is to receive from this one
abbrev pub end_weight : Wiring → View → Sessions → ℕ → ℕ → ℕ
end_weight wiring view sessions node l =
    messages_weight wiring view l (across wiring l node) (drop (sessions.heard l (across wiring l node)) (sessions.said l node))
    + greeting_weight (sessions.heard l node) (all_mentions_weight wiring view l (across wiring l node))

-- on all links of a node
abbrev pub node_weight : Wiring → View → Config → Sessions → ℕ → ℕ
node_weight wiring view config sessions node =
    total (length wiring.ends) (λ l. where_so (is_end wiring l node && lives config l) (end_weight wiring view sessions node l))

abbrev pub ahead : Wiring → View → Config → Sessions → ℕ
ahead wiring view config sessions = total (length wiring.loopbacks) (node_weight wiring view config sessions)
