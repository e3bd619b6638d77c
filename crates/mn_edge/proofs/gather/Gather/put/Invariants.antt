use Rattle.std.proofs.Common.{◌≡◌, ◌+◌, ◌≤◌, ℕ, List, ◌++◌, length}
use Rattle.mn_edge.specs.Kept.{held_bytes, most_held, HoldsOn, Framed, grown}
use Rattle.mn_edge.specs.Written.{texts}
use Rattle.mn_edge.proofs.gather.Gather.put.Given as goal

abbrev pub invariant-loop-rest : goal.invariant-loop-rest
invariant-loop-rest g l = record {
  files : length l.self ≡ length l.fn.self;
  done : List ℕ;
  piece : done ++ l.rest ≡ l.piece;
  kept : (contents : ℕ → List ℕ) → HoldsOn (texts l.names) contents l.fn.self (g.S.Shelf.files l.fn.shelf) →
      HoldsOn (texts l.names) (grown contents l.file done) l.self (g.S.Shelf.files l.shelf);
  framed : Framed (texts l.names) (g.S.Shelf.files l.fn.shelf) (g.S.Shelf.files l.shelf);
  shelf : held_bytes l.fn.self + length l.piece ≤ most_held (length l.fn.self) → l.shelf ≡ l.fn.shelf;
  held : held_bytes l.fn.self + length l.piece ≤ most_held (length l.fn.self) → l.self ≡ l.fn.self;
  rest : held_bytes l.fn.self + length l.piece ≤ most_held (length l.fn.self) → l.rest ≡ l.piece;
  reads : g.S.Shelf.read_faults l.shelf ≡ g.S.Shelf.read_faults l.fn.shelf;
  writes : g.S.Shelf.write_faults l.shelf ≡ g.S.Shelf.write_faults l.fn.shelf;
}

abbrev pub decreases-loop-rest : goal.decreases-loop-rest
decreases-loop-rest g l = length l.rest + held_bytes l.self
