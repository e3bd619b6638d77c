use Rattle.std.proofs.Common.{◌≡◌}
use Rattle.std.specs.List.{flat_map, range_with_len}
use Rattle.mn_labels.specs.Labels.{numbers}
use Rattle.mn_lsr.specs.Parts.{free_of}
use Rattle.mn_lsr.proofs.ways.free_fecs.Given as goal

abbrev pub invariant-loop-at : goal.invariant-loop-at
invariant-loop-at l = numbers l.free.items ≡ flat_map (free_of l.bindings l.labels.labels l.tick) (range_with_len 0 l.at)
