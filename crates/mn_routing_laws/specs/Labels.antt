-- How the table of attachments' labels goes on: RFC 3031, section 3.14.
use Rattle.std.specs.Prelude.{◌+◌, ℕ, List}
use Rattle.mn_labels.specs.Labels.{greatest}
use Rattle.mn_topo.specs.Network.{Network}
use Rattle.mn_topo.specs.declared.steps.Step.{Step}
use Rattle.mn_topo.specs.declared.steps.Step.TheVariants.{Attach}
use Rattle.mn_topo.specs.declared.steps.JournalEntry.{JournalEntry}
use Rattle.mn_ledger.specs.Tables.{put_pair}
use Rattle.mn_ledger.specs.Places.{home_of}
use Rattle.mn_ledger.specs.World.{Config}
use Rattle.mn_frame_laws.specs.Given.{given}
use Rattle.mn_bgp_spelling_laws.specs.Spelling.{Labels}

-- the label that a site's next attachment has: the one past the greatest that its edge gave
abbrev pub next_label : Network → List JournalEntry → ℕ → ℕ
next_label topology journal site = greatest (given topology journal (home_of topology site)).given + 1

-- by these next labels of sites: one that is attached anew has its next one, and all else stays
abbrev pub labels_after : (ℕ → ℕ) → Config → Labels → Step → Labels
labels_after gives config labels (Attach s) = put_pair labels s.0 (config.attaches s.0 + 2) (gives s.0)
labels_after gives config labels _ = labels
