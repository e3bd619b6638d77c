use Rattle.std.proofs.Common.{◌≡◌, ◌≤◌, ◌+◌, length, drop}
use Rattle.mn_labels.specs.Labels.{offered_all, numbers}
use Rattle.mn_labels.proofs.table.Labels.take_all.Given as goal

abbrev pub invariant-loop-fec : goal.invariant-loop-fec
invariant-loop-fec l = record {
  rest : offered_all l.self.labels (numbers (drop l.fec-index l.fecs)) ≡ offered_all l.fn.self.labels (numbers l.fecs);
  nodes : length l.self.labels.fecs ≡ length l.fn.self.labels.fecs;
  me : l.self.me ≡ l.fn.self.me;
  spare : l.fn.self.spare ≤ l.self.spare + l.fec-index;
}
