use Rattle.std.proofs.Common.{◌≡◌, ◌++◌, ℕ, List, IsTrue, take}
use Rattle.mn_edge.specs.Files.{Files}
use Rattle.mn_edge.specs.Kept.{AllThere}
use Rattle.mn_edge.specs.Memory.{names_of}
use Rattle.mn_edge.specs.Written.{Stands, pairs, all_known}
use Rattle.mn_edge.proofs.write.append_all.Given as goal

abbrev pub invariant-loop-piece : goal.invariant-loop-piece
invariant-loop-piece g l = record {
  stands : (base : Files) (names : List (List ℕ)) (done : List (List ℕ × List ℕ)) → Stands names done base (g.S.Shelf.files l.fn.shelf) →
      IsTrue (all_known names (pairs l.pieces)) → Stands names (done ++ take l.piece-index (pairs l.pieces)) base (g.S.Shelf.files l.shelf);
  there : AllThere (names_of l.pieces) (g.S.Shelf.files l.fn.shelf) → AllThere (names_of l.pieces) (g.S.Shelf.files l.shelf);
  reads : g.S.Shelf.read_faults l.shelf ≡ g.S.Shelf.read_faults l.fn.shelf;
  writes : g.S.Shelf.write_faults l.shelf ≡ g.S.Shelf.write_faults l.fn.shelf;
}
