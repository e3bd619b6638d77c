-- How many items a lawful journal makes.
use Rattle.std.specs.Prelude.{◌≤◌, ◌*◌, ◌^◌, ℕ, List, length}
use Rattle.mn_topo.specs.Network.{Network}
use Rattle.mn_topo.specs.declared.steps.JournalEntry.{JournalEntry}
use Rattle.mn_ledger.specs.Items.{flight_of}

-- items that a step makes at most: a notice for each node, what the ends of all links say, what edges tell all peers of all
-- their routes, and a frame
abbrev pub most_made : ℕ
most_made = 35000000000

-- each step makes at most so many, and so 63 bits count the items that a journal makes
pub record MakesFew (topology : Network) (entries : List JournalEntry) (inputs : List (List ℕ)) : Type 0 where
  pub each : (flight_of topology entries inputs).made ≤ most_made * length entries
  pub all : (flight_of topology entries inputs).made ≤ 2 ^ 62
