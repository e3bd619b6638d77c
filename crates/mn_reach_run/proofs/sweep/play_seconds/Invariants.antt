use Rattle.std.proofs.Common.{◌+◌, ◌-◌, take, [], ◌∷◌, length}
use Rattle.std.specs.List.{flat_map, range_with_len}
use Rattle.std.specs.Prelude.{Ok}
use Rattle.mn_tables.specs.Telling.{standing}
use Rattle.mn_failures.specs.Failures.{link_down}
use Rattle.mn_reach_run.specs.Playing.{IsKnown, now_at, Sweeps}
use Rattle.mn_reach_run.proofs.sweep.play_seconds.Given as goal

abbrev pub invariant-loop-second : goal.invariant-loop-second
invariant-loop-second g l = record {
  known : IsKnown l.at.topology.now l.at.settings (link_down l.first ∷ []) l.player.found;
  told : Sweeps l.at.topology.now l.at.settings l.at.line (flat_map (λ m. (link_down l.first ∷ link_down m ∷ []) ∷ [])
      (take (l.second - (l.first + 1)) (range_with_len (l.first + 1) (length l.at.topology.now.links - (l.first + 1)))))
      (now_at l.fn.player.sums (standing l.fn.player.desk.page (g.O.Sink.written l.fn.out) (g.O.Sink.faults l.fn.out)))
      (now_at l.player.sums (standing l.player.desk.page (g.O.Sink.written l.out) (g.O.Sink.faults l.out))) (Ok tt);
}
