use Rattle.std.proofs.Common.{◌≡◌, ◌≤◌, ℕ, List, None, length}
use Rattle.mn_edge_real.specs.declared.disk.Mode.TheVariants.{Append}
use Rattle.mn_edge_real.specs.Opened.{IsOpen}
use Rattle.mn_edge_real.proofs.Putting.{Put}
use Rattle.mn_edge_real.proofs.open_files.write_piece.Given as goal

abbrev pub invariant-tries : goal.invariant-tries
invariant-tries g l = record {
  within : l.done ≤ length l.piece;
  so_far : (name : List ℕ) → IsOpen (g.D.Disk.opened l.file) Append name → Put (g.D.Disk.files l.fn.disk) (g.D.Disk.files l.disk) name l.piece l.done;
  silent : g.D.Disk.files l.fn.disk ≡ None → g.D.Disk.files l.disk ≡ None;
}
