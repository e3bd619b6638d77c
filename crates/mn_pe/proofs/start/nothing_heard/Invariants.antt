use Rattle.std.proofs.Common.{◌≡◌, ℕ, [], map, take}
use Rattle.mn_pe.proofs.start.nothing_heard.Given as goal

abbrev pub invariant-loop-loopback : goal.invariant-loop-loopback
invariant-loop-loopback l = l.out.items ≡ map (λ (loopback : ℕ). []) (take l._loopback-index l.loopbacks)
