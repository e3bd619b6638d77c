-- What has happened lawfully: each step fits, none was refused, and the clock went on only where no frame was due before.
use Rattle.std.specs.Prelude.{◌≡◌, ℕ, List, length}
use Rattle.std.specs.List.{Contains}
use Rattle.mn_topo.specs.Network.{Network}
use Rattle.mn_script.specs.declared.command.Show as show
use Rattle.mn_ledger.specs.Ledger.{packets_of}
use Rattle.mn_ledger.specs.Lawful.{GoesForward, IsLawfulJournal}
use Rattle.mn_ledger.specs.OneMore.{tick_from}
use Rattle.mn_ledger.specs.Verdicts.{injections}
use Rattle.mn_damage.specs.Allowed.{AreAllowed}
use Rattle.mn_course_laws.specs.Course.{Past, inputs_of, packets_for}
use Rattle.mn_course_laws.specs.Expansion.{Table, Expansion}

-- a lawful journal, with a packet for each injection; the clock went on from its last step, past no frame that was due
pub record IsLawfulPast (topology : Network) (capture : List (List ℕ)) (past : Past) : Type 0 where
  pub journal : IsLawfulJournal topology past.entries (inputs_of capture past.entries)
  pub forward : GoesForward topology (tick_from 0 past.entries) (packets_of topology past.entries (inputs_of capture past.entries)) past.clock
  pub each : length (inputs_of capture past.entries) ≡ injections past.entries

-- A script's journal is lawful, and so is the journal at each of its tables. Nothing refused any of its entries, a step by its own rules
-- and a damage by its own, with the packets at which they look.
pub record IsLawfulRun (topology : Network) (capture : List (List ℕ)) (run : Expansion) : Type 0 where
  pub past : IsLawfulPast topology capture run.past
  pub allowed : AreAllowed topology run.past.entries (packets_for capture run.past.entries)
  pub tables : (table : show.Show) (so_far : Past) → Contains run.notes (Table table so_far) → IsLawfulPast topology capture so_far
