use Rattle.std.proofs.Common.{take, []}
use Rattle.std.specs.List.{flat_map, range_with_len}
use Rattle.std.specs.Prelude.{Ok}
use Rattle.mn_tables.specs.Telling.{standing}
use Rattle.mn_reach_run.specs.Sweeping.{alone, count_of}
use Rattle.mn_reach_run.specs.Playing.{IsKnown, now_at, Sweeps}
use Rattle.mn_reach_run.proofs.sweep.play_kind.Given as goal

abbrev pub invariant-loop-number : goal.invariant-loop-number
invariant-loop-number g l = record {
  known : IsKnown l.at.topology.now l.at.settings [] l.player.found;
  told : Sweeps l.at.topology.now l.at.settings l.at.line (flat_map (alone l.kind) (take l.number (range_with_len 0 (count_of l.at.topology.now l.kind))))
      (now_at l.fn.player.sums (standing l.fn.player.desk.page (g.O.Sink.written l.fn.out) (g.O.Sink.faults l.fn.out)))
      (now_at l.player.sums (standing l.player.desk.page (g.O.Sink.written l.out) (g.O.Sink.faults l.out))) (Ok tt);
}
