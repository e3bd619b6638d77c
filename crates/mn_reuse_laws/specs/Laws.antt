-- What holds of the labels of FECs after every lawful journal.
use Rattle.std.specs.Prelude.{◌≡◌, ◌≢◌, ◌≤◌, ◌<◌, ℕ, true, false, List, [], ◌∷◌, ◌++◌, length, Some, None, is_some}
use Rattle.mn_labels.specs.declared.meaning.Bind.{Bind}
use Rattle.mn_wiring.specs.declared.links.Dir.{Dir}
use Rattle.std.specs.List.{Contains}
use Rattle.mn_node.specs.Ldp.{Message}
use Rattle.mn_wiring.specs.Wiring.{is_end, across, receiver}
use Rattle.mn_topo.specs.Network.{Network, wiring_of}
use Rattle.mn_topo.specs.declared.steps.JournalEntry.{JournalEntry}
use Rattle.mn_topo.specs.Steps.{fits}
use Rattle.mn_topo.specs.declared.steps.Step.{Step}
use Rattle.mn_ledger.specs.World.{World}
use Rattle.mn_ledger.specs.Transport.{is_mapped, usable}
use Rattle.mn_ledger.specs.Ledger.{after, world_of, packets_of}
use Rattle.mn_ledger.specs.Packets.{Token, flying_on}
use Rattle.mn_ledger.specs.Lawful.{GoesForward}
use Rattle.mn_ledger.specs.OneMore.{tick_from}
use Rattle.mn_ledger.specs.Refusal.{refusal_at}
use Rattle.mn_settled_laws.specs.Offers.{offers_in}
use Rattle.mn_reuse_laws.specs.Answers.{count_by, is_mention, is_release, heard_from, flying_from}
use Rattle.mn_reuse_laws.specs.Resting.{is_at_rest, lays_to_rest, rested_of}
use Rattle.mn_labels.specs.Labels.{label_now, fec_of, Means}
use Rattle.mn_reuse_laws.specs.Labels.{is_free, labels_of}

-- no label of a node means two things, and a FEC that isn't at rest has one
pub record AreSound (topology : Network) (entries : List JournalEntry) (node : ℕ) : Type 0 where
  pub one : (label : ℕ) (thing other : Bind) →
      Means (labels_of topology entries node) label thing → Means (labels_of topology entries node) label other → thing ≡ other
  pub had : (fec : ℕ) → fec < length topology.loopbacks → fec ≢ node → is_at_rest topology (world_of topology entries) node fec ≡ false →
      is_some (label_now (labels_of topology entries node) fec) ≡ true

-- a FEC keeps its label in a step, unless it was free before it
abbrev pub KeepsItsLabel : Network → List JournalEntry → JournalEntry → ℕ → Type 0
KeepsItsLabel topology entries entry node = (fec label : ℕ) → label_now (labels_of topology entries node) fec ≡ Some label →
    is_free topology (world_of topology entries) node (rested_of topology entries node) entry.tick fec ≡ false →
    label_now (labels_of topology (entries ++ entry ∷ []) node) fec ≡ Some label

-- the label that a FEC had before a step means something else after it only where the FEC was free before it
abbrev pub ChangesOnceFree : Network → List JournalEntry → JournalEntry → ℕ → Type 0
ChangesOnceFree topology entries entry node = (fec label : ℕ) (thing : Bind) → label_now (labels_of topology entries node) fec ≡ Some label →
    Means (labels_of topology (entries ++ entry ∷ []) node) label thing → thing ≢ fec_of fec →
    is_free topology (world_of topology entries) node (rested_of topology entries node) entry.tick fec ≡ true

-- what a lawful step does to a FEC at a node
pub record RestsByTurns (topology : Network) (entries : List JournalEntry) (inputs : List (List ℕ)) : Type 0 where
  pub begins : (step : Step) (count : ℕ) (bytes : List ℕ) (node fec : ℕ) → fits topology step ≡ true →
      refusal_at topology (world_of topology entries) (packets_of topology entries inputs) count step bytes ≡ None →
      is_at_rest topology (world_of topology entries) node fec ≡ false → is_at_rest topology (after topology (world_of topology entries) step) node fec ≡ true →
      lays_to_rest topology (world_of topology entries) step node fec ≡ true
  pub stays : (step : Step) (count : ℕ) (bytes : List ℕ) (node fec : ℕ) → fits topology step ≡ true →
      refusal_at topology (world_of topology entries) (packets_of topology entries inputs) count step bytes ≡ None → fec < length topology.loopbacks →
      is_at_rest topology (world_of topology entries) node fec ≡ true → offers_in topology (after topology (world_of topology entries) step) node fec ≡ false →
      is_at_rest topology (after topology (world_of topology entries) step) node fec ≡ true

-- no neighbour's way to the FEC goes over the node
abbrev pub BlocksTheWay : Network → World → Type 0
BlocksTheWay topology world = (node from fec : ℕ) (hop : ℕ × ℕ) → from < length topology.loopbacks → fec < length topology.loopbacks → from ≢ fec →
    is_at_rest topology world node fec ≡ true → usable topology world.config world.views world.sessions from fec ≡ Some hop → hop.0 ≢ node

-- on each of its links no label of the FEC is kept at the other end, and no mention and no Release of it flies
pub record IsForgotten (topology : Network) (world : World) (node fec l : ℕ) : Type 0 where
  pub kept : is_mapped false fec (heard_from topology world l node) ≡ false
  pub mentions : count_by (is_mention fec) (flying_from topology world l node) ≡ 0
  pub releases : count_by (is_release fec) (flying_from topology world l (across (wiring_of topology) l node)) ≡ 0

abbrev pub AreForgotten : Network → World → Type 0
AreForgotten topology world = (node fec l : ℕ) → l < length topology.links → is_end (wiring_of topology) l node ≡ true → fec < length topology.loopbacks →
    is_at_rest topology world node fec ≡ true → IsForgotten topology world node fec l

-- a frame that flies to a node at which its FEC is at rest was sent at or before the tick at which the FEC came to rest
abbrev pub WereSentBefore : Network → List JournalEntry → List (List ℕ) → Type 0
WereSentBefore topology entries inputs = (l : ℕ) (dir : Dir) (token : Token) → l < length topology.links →
    Contains (flying_on (packets_of topology entries inputs) l dir) token → token.edge < length topology.loopbacks →
    token.edge ≢ receiver (wiring_of topology) l dir →
    is_at_rest topology (world_of topology entries) (receiver (wiring_of topology) l dir) token.edge ≡ true →
    token.sent ≤ rested_of topology entries (receiver (wiring_of topology) l dir) token.edge

-- in a step no frame's FEC gets another label at the node to which the frame flies
abbrev pub FramesKeepTheirLabels : Network → List JournalEntry → List (List ℕ) → JournalEntry → Type 0
FramesKeepTheirLabels topology entries inputs entry = (l : ℕ) (dir : Dir) (token : Token) (label : ℕ) → l < length topology.links →
    GoesForward topology (tick_from 0 entries) (packets_of topology entries inputs) entry.tick →
    Contains (flying_on (packets_of topology entries inputs) l dir) token → token.edge < length topology.loopbacks →
    token.edge ≢ receiver (wiring_of topology) l dir →
    label_now (labels_of topology entries (receiver (wiring_of topology) l dir)) token.edge ≡ Some label →
    label_now (labels_of topology (entries ++ entry ∷ []) (receiver (wiring_of topology) l dir)) token.edge ≡ Some label

-- in a step a FEC has a label at the node, and keeps it
pub record StaysLabelled (topology : Network) (entries : List JournalEntry) (entry : JournalEntry) (node fec : ℕ) : Type 0 where
  pub label : ℕ
  pub before : label_now (labels_of topology entries node) fec ≡ Some label
  pub now : label_now (labels_of topology (entries ++ entry ∷ []) node) fec ≡ Some label

-- so does each FEC of which the other end of a link keeps the node's label, or of which a mention by the node or a Release to it flies
pub record KeepsWhatIsSaid (topology : Network) (entries : List JournalEntry) (entry : JournalEntry) (node fec l : ℕ) : Type 0 where
  pub kept : is_mapped false fec (heard_from topology (world_of topology entries) l node) ≡ true → StaysLabelled topology entries entry node fec
  pub mention : (message : Message) → Contains (flying_from topology (world_of topology entries) l node) message → is_mention fec message ≡ true →
      StaysLabelled topology entries entry node fec
  pub release : (message : Message) → Contains (flying_from topology (world_of topology entries) l (across (wiring_of topology) l node)) message →
      is_release fec message ≡ true → StaysLabelled topology entries entry node fec
