use Rattle.std.proofs.Common.{◌≡◌, [], Some, None, take}
use Rattle.mn_edge.specs.Files.{Files}
use Rattle.mn_edge.specs.Written.{Stands, texts}
use Rattle.mn_edge.proofs.write.begin_all.Given as goal

abbrev pub invariant-loop-name : goal.invariant-loop-name
invariant-loop-name g l = record {
  begun : (m : Files) → g.S.Shelf.files l.fn.shelf ≡ Some m → Stands (take l.name-index (texts l.names)) [] m (g.S.Shelf.files l.shelf);
  silent : g.S.Shelf.files l.fn.shelf ≡ None → g.S.Shelf.files l.shelf ≡ None;
  reads : g.S.Shelf.read_faults l.shelf ≡ g.S.Shelf.read_faults l.fn.shelf;
  writes : g.S.Shelf.write_faults l.shelf ≡ g.S.Shelf.write_faults l.fn.shelf;
}
