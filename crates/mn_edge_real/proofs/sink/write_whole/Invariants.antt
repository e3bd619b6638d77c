use Rattle.std.proofs.Common.{◌≤◌, length}
use Rattle.mn_edge_real.proofs.Writing.{Wrote}
use Rattle.mn_edge_real.proofs.sink.write_whole.Given as goal

abbrev pub invariant-tries : goal.invariant-tries
invariant-tries g l = record {
  within : l.done ≤ length l.piece;
  so_far : Wrote (g.W.Write.contents l.fn.writer) (g.W.Write.contents l.writer) l.piece l.done;
}
