use Rattle.std.proofs.Common.{◌≡◌}
use Rattle.mn_edge.specs.Kept.{Framed}
use Rattle.mn_join_laws.specs.Pairing.{Pairing}
use Rattle.mn_join_run.specs.Course.{at_start}
use Rattle.mn_join_run.specs.Outside.{Start, outside}
use Rattle.mn_join_run.specs.Playing.{Keeps, IsAt}
use Rattle.mn_join_run.proofs.lines.Run.do_lines.Given as goal

abbrev pub invariant-loop-line : goal.invariant-loop-line
invariant-loop-line g l = record {
  names : l.self.file.names ≡ l.fn.self.file.names;
  first : l.self.pair.first.net.topology ≡ l.fn.self.pair.first.net.topology;
  second : l.self.pair.second.net.topology ≡ l.fn.self.pair.second.net.topology;
  framed : Framed l.fn.self.file.names (g.S.Shelf.files l.fn.shelf) (g.S.Shelf.files l.shelf);
  at : (pairing : Pairing) (start : Start) → start.names ≡ l.fn.self.file.names →
      Keeps pairing start at_start l.fn.self.pair l.fn.self.desk
      (outside l.fn.self.desk.page (g.O.Sink.written l.fn.out) l.fn.self.file.held (g.S.Shelf.files l.fn.shelf)) →
      IsAt pairing start (g.S.Shelf.files l.fn.shelf) l.script.capture.now l.script.lines.now l.line-index l.self.pair l.self.desk
      (outside l.self.desk.page (g.O.Sink.written l.out) l.self.file.held (g.S.Shelf.files l.shelf));
  reads : g.S.Shelf.read_faults l.shelf ≡ g.S.Shelf.read_faults l.fn.shelf;
  writes : g.S.Shelf.write_faults l.shelf ≡ g.S.Shelf.write_faults l.fn.shelf;
  faults : g.O.Sink.faults l.out ≡ g.O.Sink.faults l.fn.out;
}
