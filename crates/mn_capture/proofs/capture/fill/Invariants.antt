use Rattle.std.proofs.Common.{◌≡◌, ◌≤◌, ◌-◌, length, take, drop}
use Rattle.std.specs.Option.{ForSome}
use Rattle.mn_edge.specs.Files.{file}
use Rattle.mn_capture.proofs.capture.fill.Given as goal

abbrev pub invariant-pieces : goal.invariant-pieces
invariant-pieces g l = record {
  within : l.count ≤ length l.buf;
  so_far : ForSome (g.S.Shelf.files l.fn.shelf) (λ m. ForSome (file m l.name) (λ whole. take l.count l.buf ≡ take l.count (drop l.at whole)));
  same : g.S.Shelf.files l.shelf ≡ g.S.Shelf.files l.fn.shelf;
  reads : g.S.Shelf.read_faults l.shelf ≡ g.S.Shelf.read_faults l.fn.shelf;
  writes : g.S.Shelf.write_faults l.shelf ≡ g.S.Shelf.write_faults l.fn.shelf;
}

abbrev pub decreases-pieces : goal.decreases-pieces
decreases-pieces g l = length l.initial.buf - l.count
