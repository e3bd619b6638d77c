-- The labels of a node by the journal: which it has given, and which its FECs have now (RFC 3031, section 3.14).
use Rattle.std.specs.Prelude.{ℕ, ◌+◌, ◌==◌, ◌&&◌, Bool, not, nat_lt, max, if◌then◌else◌, List, [], ◌∷◌, filter, None, length, replicate}
use Rattle.mn_wiring.specs.Wiring.{link, nodes_of, links_at}
use Rattle.mn_labels.specs.declared.meaning.Given.{Given}
use Rattle.mn_labels.specs.Labels.{Labels, attachment_of, attached, offered}
use Rattle.mn_topo.specs.Network.{Network, wiring_of}
use Rattle.mn_topo.specs.declared.steps.Step.{Step}
use Rattle.mn_topo.specs.declared.steps.Step.TheVariants.{Attach}
use Rattle.mn_topo.specs.declared.steps.JournalEntry.{JournalEntry}
use Rattle.mn_ledger.specs.Places.{home_of, sites_at}
use Rattle.mn_ledger.specs.World.{World}
use Rattle.mn_ledger.specs.Ledger.{start, after}
use Rattle.mn_settled_laws.specs.Offers.{offers_in}
use Rattle.mn_reuse_laws.specs.Resting.{is_at_rest, rested_after}

-- 1. By the world

-- the other nodes' FECs that the node begins to offer in the step
abbrev pub begins_offer : Network → World → Step → ℕ → ℕ → Bool
begins_offer topology world step node fec =
    not (fec == node) && (not (offers_in topology world node fec) && offers_in topology (after topology world step) node fec)

abbrev pub new_offers : Network → World → Step → ℕ → List ℕ
new_offers topology world step node = filter (begins_offer topology world step node) (nodes_of (wiring_of topology))

-- for how long a frame may be on one of these links at most
abbrev pub longest_life : Network → List ℕ → ℕ
longest_life topology [] = 0
longest_life topology (l ∷ ls) = max (link (wiring_of topology) l).life (longest_life topology ls)

-- at this tick a FEC is free that has been at rest for longer than a frame that was sent to the node may fly
abbrev pub is_free : Network → World → ℕ → (ℕ → ℕ) → ℕ → ℕ → Bool
is_free topology world node rested tick fec =
    is_at_rest topology world node fec && nat_lt (rested fec + longest_life topology (links_at (wiring_of topology) node)) tick

abbrev pub attached_in : Network → World → Step → ℕ → Labels → Labels
attached_in topology world (Attach site) node labels =
    if home_of topology site.0 == node then attached labels (attachment_of site.0 (world.config.attaches site.0 + 2)) else labels
attached_in topology world _ node labels = labels

abbrev pub labels_after : Network → World → ℕ → Step → ℕ → (ℕ → ℕ) → Labels → Labels
labels_after topology world tick step node rested labels =
    offered (is_free topology world node rested tick) (attached_in topology world step node labels)
    (new_offers topology world step node)

-- 2. Over a journal

-- at the start each site of the node has a label, in order
abbrev pub first_given : ℕ → List ℕ → List Given
first_given label [] = []
first_given label (site ∷ sites) = record { label = label; what = attachment_of site 1 } ∷ first_given (label + 1) sites

abbrev pub first_labels : Network → ℕ → Labels
first_labels topology node = record { given = first_given 16 (sites_at topology node); fecs = replicate (length topology.loopbacks) None }

abbrev pub labels_from : Network → ℕ → World → (ℕ → ℕ) → Labels → List JournalEntry → Labels
labels_from topology node world rested labels [] = labels
labels_from topology node world rested labels (entry ∷ entries) =
    labels_from topology node (after topology world entry.step) (rested_after topology world entry.tick entry.step node rested)
    (labels_after topology world entry.tick entry.step node rested labels) entries

-- the labels of a node after a journal
unfoldable pub labels_of : Network → List JournalEntry → ℕ → Labels
labels_of topology entries node = labels_from topology node (start topology) (λ fec. 0) (first_labels topology node) entries
