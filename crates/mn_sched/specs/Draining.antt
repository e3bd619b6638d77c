-- What `drain` without a number comes to.
use Rattle.std.specs.Prelude.{◌<◌, ◌+◌, ℕ, List, length, None, Result, Ok, Err, ⊤}
use Rattle.mn_base.specs.Limits.{most_steps}
use Rattle.mn_script.specs.declared.command.Command.{Command}
use Rattle.mn_script.specs.declared.command.Command.TheVariants.{Drain}
use Rattle.mn_ledger.specs.Ledger.{world_of}
use Rattle.mn_ledger.specs.Items.{flight_of}
use Rattle.mn_ledger.specs.Settled.{IsSettled}
use Rattle.mn_drain_laws.specs.Drain.{IsSwitchedOn, drain_bound}
use Rattle.mn_course_laws.specs.declared.coming.Arrivals.TheVariants.{News}
use Rattle.mn_course_laws.specs.declared.coming.Ending.TheVariants as ending
use Rattle.mn_course_laws.specs.Course.{ends, inputs_of}
use Rattle.mn_course_laws.specs.Drains.{DrainsOn}
use Rattle.mn_course_laws.specs.Paced.{HaveArrived}
use Rattle.mn_net.specs.Now.{NetNow}
use Rattle.mn_sched.specs.declared.line.Played.{Played}
use Rattle.mn_sched.specs.declared.line.Played.TheVariants.{All}
use Rattle.mn_sched.specs.declared.line.Stopped.{Stopped}
use Rattle.mn_sched.specs.declared.line.Stopped.TheVariants.{TooManySteps}
use Rattle.mn_sched.specs.Playing.{past_of}

-- the journal grew by the steps of a drain, all at the present tick and no more than its bound; no notice and no message is in
-- flight any more; and the network is settled, if LDP is switched on for each link that is up and BGP between all edges
pub record HasDrained (capture : List (List ℕ)) (old new : NetNow) : Type 0 where
  pub drains : DrainsOn old.topology (past_of old) (ends ending.All (past_of new))
  pub arrived : HaveArrived News (flight_of old.topology new.journal (inputs_of capture new.journal)).items
  pub settled : IsSwitchedOn old.topology (world_of old.topology old.journal).config → IsSettled old.topology (world_of old.topology new.journal)

-- it is stopped only by reading, writing or memory, or where the journal hasn't room for as many steps as the bound
abbrev pub DrainsWhole : List (List ℕ) → NetNow → NetNow → Result Played Stopped → Type 0
DrainsWhole capture old new (Ok All) = HasDrained capture old new
DrainsWhole capture old new (Ok other) = ⊥
DrainsWhole capture old new (Err TooManySteps) = most_steps < length old.journal + drain_bound old.topology (world_of old.topology old.journal)
DrainsWhole capture old new (Err why) = ⊤

-- no other line is asked for it
abbrev pub DrainsBy : Command → List (List ℕ) → NetNow → NetNow → Result Played Stopped → Type 0
DrainsBy (Drain None) capture old new result = DrainsWhole capture old new result
DrainsBy command capture old new result = ⊤
