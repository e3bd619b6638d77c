use Rattle.std.proofs.Common.{take, [], length}
use Rattle.std.specs.List.{flat_map, range_with_len}
use Rattle.std.specs.Prelude.{Ok}
use Rattle.mn_tables.specs.Telling.{standing}
use Rattle.mn_failures.specs.Failures.{first_with}
use Rattle.mn_reach_run.specs.Playing.{IsKnown, now_at, Sweeps}
use Rattle.mn_reach_run.proofs.sweep.play_many.Given as goal

abbrev pub invariant-loop-first : goal.invariant-loop-first
invariant-loop-first g l = record {
  known : IsKnown l.at.topology.now l.at.settings [] l.player.found;
  told : Sweeps l.at.topology.now l.at.settings l.at.line
      (flat_map (first_with l.at.topology.now l.asked.many l.asked.from l.asked.to) (take l.first (range_with_len 0 (length l.at.topology.now.links))))
      (now_at l.fn.player.sums (standing l.fn.player.desk.page (g.O.Sink.written l.fn.out) (g.O.Sink.faults l.fn.out)))
      (now_at l.player.sums (standing l.player.desk.page (g.O.Sink.written l.out) (g.O.Sink.faults l.out))) (Ok tt);
}
