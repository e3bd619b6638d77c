-- What a lawful journal may come to.
use Rattle.std.specs.Prelude.{◌≤◌, ◌<◌, ◌+◌, ◌*◌, ℕ, List, length}
use Rattle.mn_base.specs.Limits.{most_steps}
use Rattle.mn_topo.specs.Network.{Network}
use Rattle.mn_topo.specs.declared.steps.JournalEntry.{JournalEntry}
use Rattle.mn_ledger.specs.Ledger.{world_of}

-- a journal has at most 4,000,000 entries, each changes a link at most once, and in each an end says on a link at most one
-- message of each node and two more: so numbers of 32 bits count the changes of a link and the messages of a life
pub record IsBounded (topology : Network) (entries : List JournalEntry) : Type 0 where
  pub steps : length entries ≤ most_steps
  pub changes : (l : ℕ) → (world_of topology entries).views.changes l ≤ length entries
  pub said : (l node : ℕ) → length ((world_of topology entries).sessions.said l node) ≤ (length topology.loopbacks + 2) * length entries
  pub few_said : (l node : ℕ) → length ((world_of topology entries).sessions.said l node) < 4000000000
