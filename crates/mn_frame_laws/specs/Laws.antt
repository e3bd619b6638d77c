-- Laws of labels, and of frames as labels are given and given up.
use Rattle.std.specs.Prelude.{◌≡◌, ◌≢◌, ◌<◌, ◌+◌, ◌-◌, ℕ, List, [], ◌∷◌, ◌++◌, length, false, Some}
use Rattle.std.specs.List.{Contains}
use Rattle.mn_wiring.specs.Wiring.{receiver}
use Rattle.mn_wiring.specs.declared.links.Dir.{Dir}
use Rattle.mn_labels.specs.declared.meaning.Bind.{Bind}
use Rattle.mn_stack.specs.Labelled.{Labelled}
use Rattle.mn_labels.specs.Labels.{meaning_of, attachments_in}
use Rattle.mn_topo.specs.Network.{Network, wiring_of}
use Rattle.mn_topo.specs.Lawful.{IsLawful}
use Rattle.mn_topo.specs.declared.steps.JournalEntry.{JournalEntry}
use Rattle.mn_ledger.specs.Ledger.{world_of, packets_of}
use Rattle.mn_ledger.specs.Lawful.{IsLawfulJournal, GoesForward}
use Rattle.mn_ledger.specs.OneMore.{tick_from}
use Rattle.mn_ledger.specs.Transport.{is_transport}
use Rattle.mn_ledger.specs.Refusal.{labels_given}
use Rattle.mn_ledger.specs.Packets.{Token, flying_on}
use Rattle.mn_reuse_laws.specs.Labels.{attached_in}
use Rattle.mn_frame_laws.specs.Given.{Labelling, HasLabel, label_in, fec_of, attachment_of, given}
use Rattle.mn_frame_laws.specs.Frames.{IsFrameOf, IsSound}
use Rattle.mn_frame_laws.specs.Tables.{AreMapped}

-- the thing has the label that it had
pub record Keeps (earlier later : Labelling) (node : ℕ) (thing : Bind) : Type 0 where
  pub had : HasLabel (later node) thing
  pub label : label_in (later node) thing ≡ label_in (earlier node) thing

-- the label that a thing has means that thing, so no label means two things
abbrev pub MeansOne : Type 0
MeansOne = (topology : Network) (entries : List JournalEntry) (inputs : List (List ℕ)) (node : ℕ) (thing : Bind) → node < length topology.loopbacks →
    IsLawful topology → IsLawfulJournal topology entries inputs → HasLabel (given topology entries node) thing →
    meaning_of (given topology entries node) (label_in (given topology entries node) thing) ≡ Some thing

-- an attachment keeps its label, whatever happens
abbrev pub AttachmentsStay : Type 0
AttachmentsStay = (topology : Network) (entries : List JournalEntry) (entry : JournalEntry) (node site attachment : ℕ) →
    HasLabel (given topology entries node) (attachment_of site attachment) →
    Keeps (given topology entries) (given topology (entries ++ entry ∷ [])) node (attachment_of site attachment)

-- the attachments that a node has given labels, and the other nodes, are as many labels as the ledger counts
abbrev pub AsManyGiven : Type 0
AsManyGiven = (topology : Network) (entries : List JournalEntry) (inputs : List (List ℕ)) (node : ℕ) → IsLawfulJournal topology entries inputs →
    attachments_in (given topology entries node).given + (length topology.loopbacks - 1) ≡ labels_given topology (world_of topology entries).config node

-- the two labels of a packet on its way to a node are kept
pub record KeepsBoth (earlier later : Labelling) (token : Token) (to : ℕ) : Type 0 where
  pub inner : Keeps earlier later token.edge (attachment_of token.site token.attachment)
  pub outer : to ≢ token.edge → Keeps earlier later to (fec_of token.edge)

-- where they are, its frame is still that of the packet
abbrev pub FramesStay : Type 0
FramesStay = (topology : Network) (earlier later : Labelling) (token : Token) (to : ℕ) (frame : Labelled) → KeepsBoth earlier later token to →
    IsSound topology earlier token → IsFrameOf earlier token to frame → IsFrameOf later token to frame × IsSound topology later token

-- in a step each packet on its way keeps both
abbrev pub FramesKeepLabels : Type 0
FramesKeepLabels = (topology : Network) (entries : List JournalEntry) (inputs : List (List ℕ)) (entry : JournalEntry) (l : ℕ) (dir : Dir) (token : Token) →
    IsLawful topology → IsLawfulJournal topology entries inputs → GoesForward topology (tick_from 0 entries) (packets_of topology entries inputs) entry.tick →
    Contains (flying_on (packets_of topology entries inputs) l dir) token → IsSound topology (given topology entries) token →
    (receiver (wiring_of topology) l dir ≢ token.edge → HasLabel (given topology entries (receiver (wiring_of topology) l dir)) (fec_of token.edge)) →
    KeepsBoth (given topology entries) (given topology (entries ++ entry ∷ [])) token (receiver (wiring_of topology) l dir)

-- a next hop that isn't the edge has a label for it
abbrev pub AllAreMapped : Type 0
AllAreMapped = (topology : Network) (entries : List JournalEntry) (inputs : List (List ℕ)) → IsLawful topology → IsLawfulJournal topology entries inputs →
    AreMapped topology (given topology entries) (world_of topology entries)

-- in a step that LDP doesn't see a label is given to a site that is attached, and to nothing else
abbrev pub GivesByAttaching : Type 0
GivesByAttaching = (topology : Network) (entries : List JournalEntry) (entry : JournalEntry) (node : ℕ) → is_transport entry.step ≡ false →
    given topology (entries ++ entry ∷ []) node ≡ attached_in topology (world_of topology entries) entry.step node (given topology entries node)
