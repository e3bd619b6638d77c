-- The steps of a journal one after another, each with what came before it, and which of them made an item.
use Rattle.std.specs.Prelude.{ℕ, nat_lt, List, [], ◌∷◌, ◌++◌, map, find, length, unwrap_or}
use Rattle.mn_topo.specs.Network.{Network}
use Rattle.mn_topo.specs.declared.steps.JournalEntry.{JournalEntry}
use Rattle.mn_ledger.specs.World.{World}
use Rattle.mn_ledger.specs.Packets.{Packets}
use Rattle.mn_ledger.specs.Ledger.{after, world_of, packets_of, packets_by, next_of}
use Rattle.mn_ledger.specs.OneMore.{made_then}
use Rattle.mn_ledger.specs.Items.{Channel, Load, made_by}
use Rattle.mn_frame_laws.specs.Given.{Labelling, given}
use Rattle.mn_course_laws.specs.Course.{input_before, inputs_of}

pub record Moment : Type 0 where
  pub before : List JournalEntry
  pub entry : JournalEntry

-- 1. Moments

abbrev pub moments_from : List JournalEntry → List JournalEntry → List Moment
moments_from before [] = []
moments_from before (entry ∷ later) = record { before = before; entry = entry } ∷ moments_from (before ++ entry ∷ []) later

abbrev pub moments_of : List JournalEntry → List Moment
moments_of entries = moments_from [] entries

-- the journal once the step is done
abbrev pub journal_then : Moment → List JournalEntry
journal_then now = now.before ++ now.entry ∷ []

-- the labels of each node then
abbrev pub labels_then : Network → Moment → Labelling
labels_then topology now = given topology (journal_then now)

-- the world before the step, and after it
abbrev pub world_before : Network → Moment → World
world_before topology now = world_of topology now.before

abbrev pub world_then : Network → Moment → World
world_then topology now = after topology (world_before topology now) now.entry.step

-- the packets before the step, and after it
abbrev pub packets_before : Network → List (List ℕ) → Moment → Packets
packets_before topology capture now = packets_of topology now.before (inputs_of capture now.before)

-- what it injects, if it does
abbrev pub injected : List (List ℕ) → Moment → List ℕ
injected capture now = next_of (input_before capture now.entry.step [])

abbrev pub packets_then : Network → List (List ℕ) → Moment → Packets
packets_then topology capture now =
    packets_by topology (world_then topology now) (packets_before topology capture now) now.entry (injected capture now)

-- what it puts into flight, in order
abbrev pub made : Network → List (List ℕ) → Moment → List (Channel × Load)
made topology capture now = made_then topology (world_before topology now) (packets_before topology capture now) now.entry (injected capture now)

-- 2. When an item was made

-- how many items a journal makes
abbrev pub items_made : Network → List (List ℕ) → List JournalEntry → ℕ
items_made topology capture entries = length (made_by topology entries (inputs_of capture entries))

-- the journal once the step was done that made the item of this number: the shortest first part that has made it
abbrev pub journal_when : Network → List (List ℕ) → List JournalEntry → ℕ → List JournalEntry
journal_when topology capture entries number =
    unwrap_or (find (λ done. nat_lt number (items_made topology capture done)) (map journal_then (moments_of entries))) entries

-- the labels of each node then
abbrev pub labels_when : Network → List (List ℕ) → List JournalEntry → ℕ → Labelling
labels_when topology capture entries number = given topology (journal_when topology capture entries number)
