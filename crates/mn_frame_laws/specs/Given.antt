-- The labels that each node has given: RFC 3031, section 3.14 (one space for the platform), and RFC 3032, section 2.1.
use Rattle.std.specs.Prelude.{◌≤◌, ℕ, ◌==◌, ◌&&◌, Bool, true, false, cond, if◌then◌else◌, List, [], ◌∷◌, unwrap_or}
use Rattle.mn_topo.specs.Network.{Network}
use Rattle.mn_topo.specs.declared.steps.JournalEntry.{JournalEntry}
use Rattle.mn_labels.specs.declared.meaning.Bind.{Bind}
use Rattle.mn_labels.specs.declared.meaning.Bind.TheVariants.{Fec, Site}
use Rattle.mn_labels.specs.declared.meaning.Given.{Given}
use Rattle.mn_labels.specs.Labels.{Labels, label_now}
pub use Rattle.mn_labels.specs.Labels.{fec_of, attachment_of}
use Rattle.mn_reuse_laws.specs.Labels.{labels_of}

-- by node, its labels
abbrev pub Labelling : Type 0
Labelling = ℕ → Labels

abbrev pub same_bind : Bind → Bind → Bool
same_bind (Fec node) (Fec other) = node.0 == other.0
same_bind (Site site number) (Site other other_number) = (site.0 == other.0) && (number == other_number)
same_bind _ _ = false

-- 1. Which label a thing has: all are from 16 on, and 0 stands for none

abbrev pub label_given : Bind → List Given → ℕ
label_given bind [] = 0
label_given bind (giving ∷ givings) = cond (same_bind bind giving.what) giving.label (label_given bind givings)

abbrev pub label_in : Labels → Bind → ℕ
label_in labels (Fec node) = unwrap_or (label_now labels node.0) 0
label_in labels (Site site number) = label_given (Site site number) labels.given

-- a FEC that is offered or at rest has one, and each attachment that was given one
abbrev pub HasLabel : Labels → Bind → Type 0
HasLabel labels thing = 16 ≤ label_in labels thing

-- the labels of each node after a journal
unfoldable pub given : Network → List JournalEntry → Labelling
given topology entries node = labels_of topology entries node

-- as a node's label for its own FEC: the entry is to be popped before it comes there (RFC 3032, section 2.1)
abbrev pub implicit_null : ℕ
implicit_null = 3

-- a node's label for the FEC of an edge
abbrev pub label_for : Labelling → ℕ → ℕ → ℕ
label_for given node edge = if node == edge then implicit_null else label_in (given node) (fec_of edge)

-- an edge's label for an attachment of a site
abbrev pub label_at : Labelling → ℕ → ℕ → ℕ → ℕ
label_at given edge site attachment = label_in (given edge) (attachment_of site attachment)
