-- The ids of LDP messages, and the frames sent in a direction, over all lives of a session and a whole journal.
use Rattle.std.specs.Prelude.{◌≡◌, ℕ, ◌+◌, nat_le, List, [], ◌∷◌, ◌++◌, map, filter, length}
use Rattle.std.specs.List.{range_with_len}
use Rattle.mn_wiring.specs.declared.links.Dir.{Dir}
use Rattle.mn_topo.specs.Network.{Network}
use Rattle.mn_topo.specs.declared.steps.JournalEntry.{JournalEntry}
use Rattle.mn_ledger.specs.Ldp.{Message, Initialization}
use Rattle.mn_ledger.specs.Ledger.{world_of}
use Rattle.mn_ledger.specs.Items.{Messages, Frames, Says, Item, items_on, loads_on, made_by}

-- 1. LDP: RFC 5036, section 3.5

-- the ids of messages that an end says one after another, after one of this id: each life begins with an Initialization, of id 1
abbrev pub ids_after : ℕ → List Message → List ℕ
ids_after id [] = []
ids_after id (Initialization ∷ messages) = 1 ∷ ids_after 1 messages
ids_after id (message ∷ messages) = (id + 1) ∷ ids_after (id + 1) messages

abbrev pub ids_of : List Message → List ℕ
ids_of messages = ids_after 0 messages

-- of all that an end sent on a link the last is what it sent in the present life, whose ids are their places, from 1
pub record SaysWithIds (topology : Network) (entries : List JournalEntry) (inputs : List (List ℕ)) (l end : ℕ) : Type 0 where
  pub earlier : List Message
  pub all : loads_on (Messages l end) (made_by topology entries inputs) ≡ map (λ message. Says message)
      (earlier ++ (world_of topology entries).sessions.said l end)
  pub ids : ids_of (earlier ++ (world_of topology entries).sessions.said l end) ≡ ids_of earlier ++ range_with_len 1
      (length ((world_of topology entries).sessions.said l end))

-- 2. Frames

-- all frames that were sent in a direction of a link, in order
abbrev pub frames_sent : Network → List JournalEntry → List (List ℕ) → ℕ → Dir → List Item
frames_sent topology entries inputs l dir = items_on (Frames l dir) (made_by topology entries inputs)

-- the number of a frame among all that were sent in its direction, from 1
abbrev pub frame_number : Network → List JournalEntry → List (List ℕ) → ℕ → Dir → Item → ℕ
frame_number topology entries inputs l dir frame = length (filter (λ item. nat_le item.number frame.number) (frames_sent topology entries inputs l dir))
