-- A node whose neighbours' FECs have other labels.
use Rattle.std.specs.Prelude.{◌≡◌, ℕ, ◌+◌, List, [], ◌∷◌, ◌++◌, Option, Some, None, option_map}
use Rattle.mn_wiring.specs.Wiring.{Wiring, across}
use Rattle.mn_topo.specs.Network.{Network, wiring_of}
use Rattle.mn_topo.specs.declared.steps.JournalEntry.{JournalEntry}
use Rattle.mn_ledger.specs.Ledger.{after, world_of}
use Rattle.mn_slice_laws.specs.Slice.{node_at, event_of}
use Rattle.mn_slice_laws.specs.Steps.{node_says}
use Rattle.mn_node.specs.Ldp.{Message, Mapping, Withdraw}
use Rattle.mn_node.specs.Node.{Session, Node, knowledge_in}
use Rattle.mn_node.specs.Machine.{Event, Learns, Opens, Closes, Hears, changed, said, said_any, after_event, after_any}
use Rattle.mn_labels.specs.Labels.{own_labels}
use Rattle.mn_reuse_laws.specs.Labels.{labels_of}

-- where a FEC has a label it has this one instead, by FEC from this one on
abbrev pub relabelled_from : (ℕ → ℕ) → ℕ → List (Option ℕ) → List (Option ℕ)
relabelled_from labels fec [] = []
relabelled_from labels fec (None ∷ rest) = None ∷ relabelled_from labels (fec + 1) rest
relabelled_from labels fec (Some label ∷ rest) = Some (labels fec) ∷ relabelled_from labels (fec + 1) rest

abbrev pub session_with : (ℕ → ℕ) → Session → Session
session_with labels session = record session { labels = relabelled_from labels 0 session.labels }

-- by node and FEC, the label that the FEC has at the node
abbrev pub Labelling : Type 0
Labelling = ℕ → ℕ → ℕ

-- the sessions from this link on
abbrev pub sessions_with : Wiring → Labelling → ℕ → ℕ → List (Option Session) → List (Option Session)
sessions_with wiring given me l [] = []
sessions_with wiring given me l (session ∷ sessions) =
    option_map (session_with (given (across wiring l me))) session ∷ sessions_with wiring given me (l + 1) sessions

abbrev pub node_with : Wiring → Labelling → Node → Node
node_with wiring given node = record node { sessions = sessions_with wiring given node.me 0 node.sessions }

-- the label that a message brings: a Mapping and a Withdraw that of their FEC
abbrev pub label_with : (ℕ → ℕ) → Message → ℕ
label_with labels (Mapping fec) = labels fec
label_with labels (Withdraw fec) = labels fec
label_with labels _ = 0

abbrev pub event_with : Wiring → Labelling → ℕ → Event → Event
event_with wiring given me (Hears l message label) = Hears l message (label_with (given (across wiring l me)) message)
event_with wiring given me (Learns l) = Learns l
event_with wiring given me (Opens l) = Opens l
event_with wiring given me (Closes l) = Closes l

-- with other labels, a node to which the same happens knows and says the same, and is then the same but for these labels
pub record GoesAlike (wiring : Wiring) (given : Labelling) (node : Node) (event : Event) : Type 0 where
  pub knows : knowledge_in (node_with wiring given node) ≡ knowledge_in node
  pub changes : changed wiring (node_with wiring given node) (event_with wiring given node.me event) ≡ node_with wiring given (changed wiring node event)
  pub says : said wiring (node_with wiring given node) (event_with wiring given node.me event) ≡ said wiring node event
  pub then_is : after_event wiring (node_with wiring given node) (event_with wiring given node.me event) ≡ node_with wiring given
      (after_event wiring node event)

-- by a journal, the label that a FEC has at a node (RFC 3032, section 2.1: 3 for the node's own)
abbrev pub labels_at : Network → List JournalEntry → Labelling
labels_at topology entries node = own_labels node (labels_of topology entries node)

-- a node of the world before a step, with the labels of before, is the same with the labels of after
abbrev pub IsRelabelledAlike : Network → List JournalEntry → JournalEntry → ℕ → Type 0
IsRelabelledAlike topology entries entry node =
    node_with (wiring_of topology) (labels_at topology entries) (node_at topology (world_of topology entries) node)
    ≡ node_with (wiring_of topology) (labels_at topology (entries ++ entry ∷ [])) (node_at topology (world_of topology entries) node)

-- what happens to a node in a step, a message with the label that its FEC has after the step
abbrev pub event_then : Network → List JournalEntry → JournalEntry → ℕ → Option Event
event_then topology entries entry node =
    option_map (event_with (wiring_of topology) (labels_at topology (entries ++ entry ∷ [])) node)
    (event_of topology (world_of topology entries) entry.step node)

-- a node with the labels of before a step becomes in it the node with the labels of after, and says what the ledger says
pub record GoesWithItsLabels (topology : Network) (entries : List JournalEntry) (entry : JournalEntry) (node : ℕ) : Type 0 where
  pub becomes : after_any (wiring_of topology) (node_with (wiring_of topology) (labels_at topology entries) (node_at topology (world_of topology entries) node))
      (event_then topology entries entry node)
      ≡ node_with (wiring_of topology) (labels_at topology (entries ++ entry ∷ []))
      (node_at topology (after topology (world_of topology entries) entry.step) node)
  pub says : said_any (wiring_of topology) (node_with (wiring_of topology) (labels_at topology entries) (node_at topology (world_of topology entries) node))
      (event_then topology entries entry node)
      ≡ node_says topology (world_of topology entries) entry.step node
