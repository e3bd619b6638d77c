use Rattle.std.proofs.Common.{◌≡◌, [], map, replicate}
use Rattle.mn_edge.proofs.held.Held.new.Given as goal

abbrev pub invariant-loop : goal.invariant-loop
invariant-loop l = map (λ v. v.items) l.buffers.items ≡ replicate l.counter []
