-- Journals that are one to the ledger.
use Rattle.std.specs.Prelude.{◌≡◌, ℕ, List, map, length}
use Rattle.mn_topo.specs.Network.{Network}
use Rattle.mn_topo.specs.declared.steps.Damaged.TheVariants.{Undamaged}
use Rattle.mn_topo.specs.declared.steps.JournalEntry.{JournalEntry}
use Rattle.mn_ledger.specs.Items.{made_by, flight_of}
use Rattle.mn_ledger.specs.Lawful.{IsLawfulJournal}
use Rattle.mn_ledger.specs.Ledger.{world_of, packets_of}
use Rattle.mn_ledger.specs.OneMore.{tick_from}
use Rattle.mn_ledger.specs.Verdicts.{injections}

-- the entry without its mark
abbrev pub unmarked : JournalEntry → JournalEntry
unmarked entry = record { tick = entry.tick; step = entry.step; damaged = Undamaged }

-- all that the ledger says of the one it says of the other
pub record AreOne (topology : Network) (one other : List JournalEntry) : Type 0 where
  pub world : world_of topology one ≡ world_of topology other
  pub count : length one ≡ length other
  pub injections : injections one ≡ injections other
  pub tick : tick_from 0 one ≡ tick_from 0 other
  pub packets : (inputs : List (List ℕ)) → packets_of topology one inputs ≡ packets_of topology other inputs
  pub made : (inputs : List (List ℕ)) → made_by topology one inputs ≡ made_by topology other inputs
  pub flight : (inputs : List (List ℕ)) → flight_of topology one inputs ≡ flight_of topology other inputs
  pub lawful : (inputs : List (List ℕ)) → IsLawfulJournal topology one inputs → IsLawfulJournal topology other inputs

-- journals that differ in marks alone are one
abbrev pub ChangesNothing : Type 0
ChangesNothing = (topology : Network) (one other : List JournalEntry) → map unmarked one ≡ map unmarked other → AreOne topology one other
