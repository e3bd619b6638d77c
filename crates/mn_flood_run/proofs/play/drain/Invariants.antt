use Rattle.std.proofs.Common.{◌≡◌, ◌≤◌, ◌-◌, false}
use Rattle.mn_base.specs.Limits.{most_steps}
use Rattle.mn_flood_laws.specs.Course.{FloodRun, every_hearing}
use Rattle.mn_flood_run.specs.Playing.{IsAt}
use Rattle.mn_flood_run.proofs.Courses.{ComesTo}
use Rattle.mn_flood_run.proofs.play.drain.Given as goal

abbrev pub invariant-loop-turn : goal.invariant-loop-turn
invariant-loop-turn l = record {
  over : l.flood.wiring ≡ l.initial.flood.wiring;
  works : l.flood.failed ≡ false;
  few : l.flood.done ≤ most_steps;
  comes : (run : FloodRun) → IsAt run l.initial.flood → ComesTo l.initial.flood.wiring run every_hearing (every_hearing - l._turn) l.flood;
}
