use Rattle.std.proofs.Common.{◌≡◌, ◌<◌, ◌*◌, map}
use Rattle.std.specs.List.{All, range_with_len}
use Rattle.mn_gen.proofs.shape.edges.Given as goal

abbrev pub invariant-loop-k : goal.invariant-loop-k
invariant-loop-k l = (l.all.items ≡ map (λ k. 4 * k) (range_with_len 0 l.k)) × All (λ edge. edge < 256) l.all.items
