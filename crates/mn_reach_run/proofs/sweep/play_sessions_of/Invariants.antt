use Rattle.std.proofs.Common.{take, [], length}
use Rattle.std.specs.List.{flat_map, range_with_len}
use Rattle.std.specs.Prelude.{Ok}
use Rattle.mn_tables.specs.Telling.{standing}
use Rattle.mn_failures.specs.Failures.{session_of}
use Rattle.mn_reach_run.specs.Playing.{IsKnown, now_at, Sweeps}
use Rattle.mn_reach_run.proofs.sweep.play_sessions_of.Given as goal

abbrev pub invariant-loop-other : goal.invariant-loop-other
invariant-loop-other g l = record {
  known : IsKnown l.at.topology.now l.at.settings [] l.player.found;
  told : Sweeps l.at.topology.now l.at.settings l.at.line
      (flat_map (session_of l.at.topology.now l.one) (take l.other (range_with_len 0 (length l.at.topology.now.loopbacks))))
      (now_at l.fn.player.sums (standing l.fn.player.desk.page (g.O.Sink.written l.fn.out) (g.O.Sink.faults l.fn.out)))
      (now_at l.player.sums (standing l.player.desk.page (g.O.Sink.written l.out) (g.O.Sink.faults l.out))) (Ok tt);
}
