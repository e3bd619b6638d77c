use Rattle.std.proofs.Common.{◌+◌, sym, arith, subst}
use Rattle.mn_tables.specs.Telling.{standing}
use Rattle.mn_reach_run.specs.Playing.{now_at}
use Rattle.mn_reach_run.specs.Lasting.{IsAt}
use Rattle.mn_reach_run.proofs.Lasting.{first_at, line_done, line_cut, lines_done}
use Rattle.mn_reach_run.proofs.play.play.Goals as goal

pub loop-line-init : goal.loop-line-init
loop-line-init g c = first_at c.args.topology.now c.args.lines.now c.args.player.now.found c.args.player.now.sums _ _ c.requires.ready c.requires.whole
    c.requires.start c.first-manner.ensures

pub loop-line-preserved : goal.loop-line-preserved
loop-line-preserved g c =
    subst (λ manner. IsAt c.args.topology.now c.args.lines.now (c.loop-line.line-index + 1) manner c.play_line.new.player.found
    (standing c.args.player.now.desk.page (g.O.Sink.written c.args.out.now) (g.O.Sink.faults c.args.out.now))
    (now_at c.play_line.new.player.sums (standing c.play_line.new.player.desk.page (g.O.Sink.written c.play_line.new.out)
    (g.O.Sink.faults c.play_line.new.out))))
    (sym c.manner_after-manner.ensures)
    (line_done c.args.topology.now c.args.lines.now c.loop-line.line-index c.loop-line.manner c.loop-line.player.found _ _ c.loop-line.invariant
    c.line-item.result c.loop-line-test.true c.line-item.is c.play_line.new.player.found _ c.in_ok-play_line.ensures.told c.in_ok-play_line.ensures.lasts)

pub returns-in_err-play_line : goal.returns-in_err-play_line
returns-in_err-play_line g c =
    line_cut c.args.topology.now c.args.lines.now c.loop-line.line-index c.loop-line.manner c.loop-line.player.found _ _ c.loop-line.invariant
    c.line-item.result c.loop-line-test.true c.line-item.is _ c.in_err-play_line.field-0.0 _ c.from_residual.ensures c.in_err-play_line.ensures.told

pub returns : goal.returns
returns g c =
    lines_done c.args.topology.now c.args.lines.now c.loop-line.line-index c.loop-line.manner c.loop-line.player.found _ _ _ c.tell_if_new.result
    c.loop-line.invariant
    (omega arith) c.tell_if_new.ensures.told
