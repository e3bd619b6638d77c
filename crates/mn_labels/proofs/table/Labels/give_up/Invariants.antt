use Rattle.std.proofs.Common.{◌≡◌, take}
use Rattle.mn_labels.specs.Labels.{given_up, is_one_of}
use Rattle.mn_labels.proofs.table.Labels.give_up.Given as goal

abbrev pub invariant-loop-fec : goal.invariant-loop-fec
invariant-loop-fec l = record {
  labels : l.self.labels ≡ given_up (is_one_of (take l.fec-index l.free)) l.fn.self.labels;
  me : l.self.me ≡ l.fn.self.me;
  spare : l.self.spare ≡ l.fn.self.spare;
}
