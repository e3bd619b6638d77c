use Rattle.std.proofs.Common.{take, [], length}
use Rattle.std.specs.List.{flat_map, range_with_len}
use Rattle.std.specs.Prelude.{Ok}
use Rattle.mn_tables.specs.Telling.{standing}
use Rattle.mn_failures.specs.Failures.{edge_of}
use Rattle.mn_reach_run.specs.Playing.{IsKnown, now_at, Sweeps}
use Rattle.mn_reach_run.proofs.sweep.play_sessions.Given as goal

abbrev pub invariant-loop-one : goal.invariant-loop-one
invariant-loop-one g l = record {
  known : IsKnown l.at.topology.now l.at.settings [] l.player.found;
  told : Sweeps l.at.topology.now l.at.settings l.at.line
      (flat_map (edge_of l.at.topology.now) (take l.one (range_with_len 0 (length l.at.topology.now.loopbacks))))
      (now_at l.fn.player.sums (standing l.fn.player.desk.page (g.O.Sink.written l.fn.out) (g.O.Sink.faults l.fn.out)))
      (now_at l.player.sums (standing l.player.desk.page (g.O.Sink.written l.out) (g.O.Sink.faults l.out))) (Ok tt);
}
