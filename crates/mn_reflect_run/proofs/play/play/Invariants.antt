use Rattle.std.proofs.Common.{◌≤◌, take}
use Rattle.mn_tables.specs.Telling.{standing}
use Rattle.mn_reflect_telling.specs.Mentions.{numbers_of}
use Rattle.mn_reflect_run.specs.Playing.{ArePlayed}
use Rattle.mn_reflect_run.proofs.play.play.Given as goal

abbrev pub invariant-loop-line : goal.invariant-loop-line
invariant-loop-line g l = record {
  few : l.refused ≤ l.line-index;
  played : ArePlayed l.topology (numbers_of l.script.reflectors) (take l.line-index l.lines) l.reflect l.refused
      (standing l.fn.desk.page (g.O.Sink.written l.fn.out) (g.O.Sink.faults l.fn.out)) (standing l.desk.page (g.O.Sink.written l.out) (g.O.Sink.faults l.out));
}
