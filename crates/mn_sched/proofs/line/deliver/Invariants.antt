use Rattle.std.proofs.Common.{◌≡◌, ◌≤◌, ◌<◌, ◌^◌, ◌-◌, ◌+◌, ℕ, List, length}
use Rattle.mn_base.specs.Limits.{most_steps}
use Rattle.mn_course_laws.specs.Course.{deliver, inputs_of}
use Rattle.mn_course_laws.specs.declared.coming.Arrivals.TheVariants.{AllFrames}
use Rattle.mn_net.specs.Now.{StandsFor}
use Rattle.mn_net.specs.Prelude.{HasRoom}
use Rattle.mn_sched.specs.Watching.{Together}
use Rattle.mn_sched.specs.Playing.{past_of, GoesOnFor, IsFirstPart, IsPaced}
use Rattle.mn_sched.proofs.line.deliver.Given as goal

abbrev pub invariant-loop-turn : goal.invariant-loop-turn
invariant-loop-turn g l = record {
  course : (capture : List (List ℕ)) → StandsFor l.fn.net (inputs_of capture l.fn.net.journal) →
      deliver l.fn.net.topology capture l.arrivals (l.most - l.turn) (past_of l.net) ≡ deliver l.fn.net.topology capture l.arrivals l.most
      (past_of l.fn.net);
  standing : GoesOnFor l.fn.net l.net;
  together : Together l.net (g.W.Watch.packets l.watch) (g.W.Watch.stands l.watch);
  room : l.arrivals ≡ AllFrames → (capture : List (List ℕ)) → StandsFor l.fn.net (inputs_of capture l.fn.net.journal) → 0 < l.left → HasRoom l.net l.left;
  topology : l.net.topology ≡ l.fn.net.topology;
  grown : IsFirstPart l.fn.net.journal l.net.journal;
  clock : IsPaced 0 l.fn.net l.net;
  early : l.net.tick ≤ 2 ^ 62;
  longer : length l.net.journal ≡ length l.fn.net.journal + l.turn;
  few : 0 < l.turn → length l.net.journal ≤ most_steps;
  records : g.W.Watch.records l.watch ≡ g.W.Watch.records l.fn.watch;
  packets : g.W.Watch.packets l.watch ≡ g.W.Watch.packets l.fn.watch;
  goes_on : g.W.Watch.goes_on l.fn.watch l.watch;
  reads : g.W.Watch.reads l.watch ≡ g.W.Watch.reads l.fn.watch;
  writes : g.W.Watch.writes l.watch ≡ g.W.Watch.writes l.fn.watch;
}
