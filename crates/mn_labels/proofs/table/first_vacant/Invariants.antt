use Rattle.std.proofs.Common.{◌≡◌, filter, drop}
use Rattle.mn_labels.specs.Kept.{is_vacant}
use Rattle.mn_labels.proofs.table.first_vacant.Given as goal

abbrev pub invariant-loop-place : goal.invariant-loop-place
invariant-loop-place l = filter (is_vacant l.meanings) (drop l.place l.labels) ≡ filter (is_vacant l.meanings) (drop l.passed l.labels)
