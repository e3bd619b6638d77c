use Rattle.std.proofs.Common.{◌≡◌, ◌++◌, ◌-◌, ◌≤◌, ℕ, List, length, take}
use Rattle.std.specs.List.{flat_map}
use Rattle.mn_edge.specs.Kept.{Framed}
use Rattle.mn_join_run.specs.Report.{exit_record}
use Rattle.mn_join_run.specs.Outside.{Holding}
use Rattle.mn_join_run.proofs.exits.ExitsFile.put_exits.Given as goal

abbrev pub invariant-exits : goal.invariant-exits
invariant-exits g l = record {
  within : l.k ≤ length l.pair.exits;
  names : l.self.names ≡ l.fn.self.names;
  framed : Framed l.fn.self.names (g.S.Shelf.files l.fn.shelf) (g.S.Shelf.files l.shelf);
  grown : (bytes : List ℕ) → Holding l.fn.self.names bytes l.fn.self.held (g.S.Shelf.files l.fn.shelf) →
      Holding l.fn.self.names (bytes ++ flat_map exit_record (take l.k l.pair.exits)) l.self.held (g.S.Shelf.files l.shelf);
  reads : g.S.Shelf.read_faults l.shelf ≡ g.S.Shelf.read_faults l.fn.shelf;
  writes : g.S.Shelf.write_faults l.shelf ≡ g.S.Shelf.write_faults l.fn.shelf;
}

abbrev pub decreases-exits : goal.decreases-exits
decreases-exits g l = length l.pair.exits - l.k
