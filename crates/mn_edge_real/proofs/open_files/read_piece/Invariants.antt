use Rattle.std.proofs.Common.{◌≡◌}
use Rattle.mn_edge_real.proofs.open_files.read_piece.Given as goal

abbrev pub invariant-tries : goal.invariant-tries
invariant-tries g l = g.D.Disk.files l.disk ≡ g.D.Disk.files l.fn.disk
