use Rattle.std.proofs.Common.{◌≡◌, ◌≤◌, ◌+◌, ◌*◌, length}
use Rattle.std.specs.Option.{ForSome}
use Rattle.mn_edge.specs.Kept.{Framed}
use Rattle.mn_perform.specs.Recorded.{told_packets}
use Rattle.mn_perform.specs.Running.{IsAt}
use Rattle.mn_perform.proofs.lines.perform_lines.Given as goal

abbrev pub invariant-loop-line : goal.invariant-loop-line
invariant-loop-line g l = record {
  names : l.run.books.names ≡ l.fn.run.books.names;
  places : l.run.books.places ≡ l.fn.run.books.places;
  topology : l.run.net.topology ≡ l.fn.run.net.topology;
  framed : Framed l.fn.run.books.names (g.S.Shelf.files l.fn.shelf) (g.S.Shelf.files l.shelf);
  told : told_packets (g.S.Shelf.files l.shelf) l.fn.run.books.names l.capture ≡ told_packets (g.S.Shelf.files l.fn.shelf) l.fn.run.books.names l.capture;
  clock : l.run.net.tick ≤ 1000000 * l.line-index + 1000 * length l.run.net.journal;
  refused : l.run.desk.refused ≤ l.line-index;
  at : ForSome (told_packets (g.S.Shelf.files l.fn.shelf) l.fn.run.books.names l.capture) (λ all.
      IsAt l.fn.run.net.topology all (g.O.Sink.written l.fn.out) l.lines l.line-index l.run.net l.run.books l.run.desk (g.S.Shelf.files l.shelf)
      (g.O.Sink.written l.out));
  reads : g.S.Shelf.read_faults l.shelf ≡ g.S.Shelf.read_faults l.fn.shelf;
  writes : g.S.Shelf.write_faults l.shelf ≡ g.S.Shelf.write_faults l.fn.shelf;
  faults : g.O.Sink.faults l.out ≡ g.O.Sink.faults l.fn.out;
}
