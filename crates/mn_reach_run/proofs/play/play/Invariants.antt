use Rattle.mn_tables.specs.Telling.{standing}
use Rattle.mn_reach_run.specs.Playing.{now_at}
use Rattle.mn_reach_run.specs.Lasting.{IsAt}
use Rattle.mn_reach_run.proofs.play.play.Given as goal

abbrev pub invariant-loop-line : goal.invariant-loop-line
invariant-loop-line g l =
    IsAt l.topology l.lines l.line-index l.manner l.player.found (standing l.fn.player.desk.page (g.O.Sink.written l.fn.out) (g.O.Sink.faults l.fn.out))
    (now_at l.player.sums (standing l.player.desk.page (g.O.Sink.written l.out) (g.O.Sink.faults l.out)))
