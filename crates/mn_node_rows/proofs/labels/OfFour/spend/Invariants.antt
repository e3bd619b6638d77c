use Rattle.std.proofs.Common.{◌≡◌, length}
use Rattle.mn_node_rows.proofs.labels.OfFour.spend.Given as goal

abbrev pub invariant-loop-before : goal.invariant-loop-before
invariant-loop-before l = record {
  me : l.self-inside.labels.me ≡ 0;
  fecs : length l.self-inside.labels.labels.fecs ≡ 4;
}
