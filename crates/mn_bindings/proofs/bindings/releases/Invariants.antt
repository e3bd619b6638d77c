use Rattle.std.proofs.Common.{◌≡◌, ◌++◌, drop}
use Rattle.mn_bindings.specs.Tells.{releases}
use Rattle.mn_bindings.proofs.bindings.releases.Given as goal

abbrev pub invariant-loop-at : goal.invariant-loop-at
invariant-loop-at l = l.tells.items ++ releases (drop l.at l.events) ≡ releases l.events
