-- Which labels attachments have: RFC 3031, section 3.14.
use Rattle.std.specs.Prelude.{◌≡◌, ◌+◌, ℕ, List, [], ◌∷◌, ◌++◌}
use Rattle.mn_base.specs.declared.numbers.SiteNo.{SiteNo}
use Rattle.mn_labels.specs.Labels.{greatest}
use Rattle.mn_topo.specs.Network.{Network}
use Rattle.mn_topo.specs.declared.steps.Step.TheVariants.{Attach}
use Rattle.mn_topo.specs.declared.steps.JournalEntry.{JournalEntry}
use Rattle.mn_ledger.specs.Places.{home_of}
use Rattle.mn_ledger.specs.Ledger.{world_of}
use Rattle.mn_frame_laws.specs.Given.{given, label_at}

-- by site and attachment
abbrev pub Labels : Type 0
Labels = ℕ → ℕ → ℕ

-- the label that the site's edge has given it
unfoldable pub labels_of : Network → List JournalEntry → Labels
labels_of topology entries site attachment = label_at (given topology entries) (home_of topology site) site attachment

-- a site that is attached anew has the label past the greatest that its edge gave
abbrev pub GivesTheNext : Type 0
GivesTheNext = (topology : Network) (entries : List JournalEntry) (entry : JournalEntry) (site : SiteNo) → entry.step ≡ Attach site →
    labels_of topology (entries ++ entry ∷ []) site.0 ((world_of topology entries).config.attaches site.0 + 2)
    ≡ greatest (given topology entries (home_of topology site.0)).given + 1
