-- How far the clock goes on, and that all has arrived.
use Rattle.std.specs.Prelude.{◌≡◌, ◌≤◌, ℕ, ◌+◌, ◌*◌, Bool, false, not, nat_le, List, length}
use Rattle.std.specs.List.{Contains}
use Rattle.mn_script.specs.declared.command.Command.{Command}
use Rattle.mn_script.specs.declared.command.Command.TheVariants.{Do, Run}
use Rattle.mn_ledger.specs.Items.{Item}
use Rattle.mn_ledger_laws.specs.Flight.{is_frame}
use Rattle.mn_course_laws.specs.declared.coming.Arrivals.{Arrivals}
use Rattle.mn_course_laws.specs.declared.coming.Arrivals.TheVariants.{DueBy, News, AllFrames}
use Rattle.mn_course_laws.specs.Course.{Past}
use Rattle.mn_ledger.specs.Time.{ticks_in}

-- 1. The clock

-- the ticks that a line asks for
abbrev pub ticks_of : Command → ℕ
ticks_of (Run ticks) = ticks
ticks_of (Do step) = ticks_in step
ticks_of _ = 0

-- the journal grew, and the clock went on by no more than these ticks, and 1,000 for each entry more
pub record IsPaced (ticks : ℕ) (old new : Past) : Type 0 where
  pub onward : old.clock ≤ new.clock
  pub longer : length old.entries ≤ length new.entries
  pub within : new.clock + 1000 * length old.entries ≤ old.clock + ticks + 1000 * length new.entries

-- 2. What has arrived

-- the line lets the item arrive, now or when it is due
abbrev pub lets_arrive : Arrivals → Item → Bool
lets_arrive (DueBy end) item = nat_le item.due end
lets_arrive News item = not (is_frame item.on)
lets_arrive AllFrames item = is_frame item.on

-- nothing in flight is left to the line
abbrev pub HaveArrived : Arrivals → List Item → Type 0
HaveArrived arrivals items = (item : Item) → Contains items item → lets_arrive arrivals item ≡ false
