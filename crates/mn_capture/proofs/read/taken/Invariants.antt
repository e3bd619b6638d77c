use Rattle.std.proofs.Common.{◌≡◌, ◌≤◌, ◌-◌}
use Rattle.mn_capture.specs.Taking.{HasCome}
use Rattle.mn_capture.proofs.read.taken.Given as goal

abbrev pub invariant-pieces : goal.invariant-pieces
invariant-pieces g l = record {
  come : HasCome (g.S.Shelf.files l.fn.shelf) l.name l.most_records l.at l.scan;
  within : l.at ≤ l.most_bytes;
  same : g.S.Shelf.files l.shelf ≡ g.S.Shelf.files l.fn.shelf;
  reads : g.S.Shelf.read_faults l.shelf ≡ g.S.Shelf.read_faults l.fn.shelf;
  writes : g.S.Shelf.write_faults l.shelf ≡ g.S.Shelf.write_faults l.fn.shelf;
}

abbrev pub decreases-pieces : goal.decreases-pieces
decreases-pieces g l = l.most_bytes - l.at
