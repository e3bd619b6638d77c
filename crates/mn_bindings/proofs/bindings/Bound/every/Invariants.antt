use Rattle.std.proofs.Common.{◌≡◌, map}
use Rattle.std.specs.List.{range_with_len}
use Rattle.mn_bindings.specs.News.{so_far}
use Rattle.mn_bindings.proofs.bindings.Bound.every.Given as goal

abbrev pub invariant-loop-fec : goal.invariant-loop-fec
invariant-loop-fec l = l.all.items ≡ map (so_far l.self) (range_with_len 0 l.fec)
