use Rattle.std.proofs.Common.{◌≡◌, ℕ, List, take}
use Rattle.std.specs.Option.{option_map}
use Rattle.mn_edge.specs.Memory.{after_calls}
use Rattle.mn_edge.specs.Kept.{filled, held_bytes, HoldsOn, Framed}
use Rattle.mn_edge.specs.Written.{texts}
use Rattle.mn_edge.proofs.Gathering.{emptied}
use Rattle.mn_edge.proofs.gather.append_held.Given as goal

abbrev pub invariant-loop-file : goal.invariant-loop-file
invariant-loop-file g l = record {
  kept : (contents : ℕ → List ℕ) → HoldsOn (texts l.names) contents l.held (g.S.Shelf.files l.fn.shelf) →
      HoldsOn (texts l.names) contents (emptied l.file l.held) (g.S.Shelf.files l.shelf);
  framed : Framed (texts l.names) (g.S.Shelf.files l.fn.shelf) (g.S.Shelf.files l.shelf);
  untouched : held_bytes l.held ≡ 0 → l.shelf ≡ l.fn.shelf;
  calls : g.S.Shelf.calls l.shelf ≡ option_map (after_calls (filled (take l.file l.held))) (g.S.Shelf.calls l.fn.shelf);
  reads : g.S.Shelf.read_faults l.shelf ≡ g.S.Shelf.read_faults l.fn.shelf;
  writes : g.S.Shelf.write_faults l.shelf ≡ g.S.Shelf.write_faults l.fn.shelf;
}
