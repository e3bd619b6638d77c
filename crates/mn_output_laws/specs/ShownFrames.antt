-- What a node's labels lead to after a journal, and what becomes of a frame there, whoever sent it: RFC 3031, sections 3.10 and 3.11.
use Rattle.std.specs.Prelude.{◌≡◌, ◌<◌, ◌-◌, ℕ, List, [], ◌∷◌, length, Option, Some, None, nat_le, if◌then◌else◌}
use Rattle.mn_drops.specs.declared.drops.Rule.TheVariants.{TtlExpired, NoEntry}
use Rattle.mn_labels.specs.declared.meaning.Bind.{Bind}
use Rattle.mn_labels.specs.declared.meaning.Bind.TheVariants.{Fec, Site}
use Rattle.mn_labels.specs.Labels.{meaning_of}
use Rattle.mn_stack.specs.declared.message.Entry.{Entry}
use Rattle.mn_stack.specs.Labelled.{Labelled}
use Rattle.mn_lfib.specs.declared.answer.Use.{Use}
use Rattle.mn_lfib.specs.declared.answer.Forwarded.{Forwarded}
use Rattle.mn_lfib.specs.declared.answer.Forwarded.TheVariants.{Drop}
use Rattle.mn_lfib.specs.Uses.{fec_use}
use Rattle.mn_lfib.specs.Forwarding.{by_use, forwarded}
use Rattle.mn_topo.specs.Network.{Network}
use Rattle.mn_topo.specs.declared.steps.JournalEntry.{JournalEntry}
use Rattle.mn_ledger.specs.World.{World}
use Rattle.mn_ledger.specs.Ledger.{world_of}
use Rattle.mn_frame_laws.specs.Given.{Labelling, given}
use Rattle.mn_frame_laws.specs.Tables.{TableStands, next_entry, site_entry}

-- what a label leads to by what it was given for: to the next hop, or to the site; one that was given for nothing leads nowhere
abbrev pub leads : Network → Labelling → World → ℕ → Option Bind → Option Use
leads topology labels world node None = None
leads topology labels world node (Some (Fec edge)) = fec_use (next_entry topology labels world node edge.0)
leads topology labels world node (Some (Site site attachment)) = Some (site_entry world site.0 attachment)

-- what a label of the node leads to after these entries
abbrev pub use_at : Network → List JournalEntry → ℕ → ℕ → Option Use
use_at topology entries node label =
    leads topology (given topology entries) (world_of topology entries) node (meaning_of (given topology entries node) label)

-- what becomes of a frame with these entries at the node, and the frame as it is then
abbrev pub shown_by : Network → List JournalEntry → ℕ → List Entry → Labelled → Forwarded × Labelled
shown_by topology entries node [] frame = (Drop NoEntry, frame)
shown_by topology entries node (top ∷ below) frame =
    if nat_le top.ttl 1 then (Drop TtlExpired, frame) else by_use (use_at topology entries node top.label) top.bottom (top.ttl - 1) frame

abbrev pub shown : Network → List JournalEntry → ℕ → Labelled → Forwarded × Labelled
shown topology entries node frame = shown_by topology entries node frame.entries frame

-- a table that stands for the world after these entries does with every frame what is shown
abbrev pub IsTold : Type 0
IsTold = (topology : Network) (entries : List JournalEntry) (node : ℕ) (uses : List (ℕ × Use)) →
    node < length topology.loopbacks → TableStands topology (given topology entries) (world_of topology entries) node uses →
    (frame : Labelled) → forwarded uses frame ≡ shown topology entries node frame
