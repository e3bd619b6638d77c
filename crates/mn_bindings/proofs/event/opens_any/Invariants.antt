use Rattle.std.proofs.Common.{ℕ, ◌≡◌, drop}
use Rattle.mn_bindings.specs.Tells.{opens}
use Rattle.mn_bindings.proofs.event.opens_any.Given as goal

abbrev pub invariant-loop-event : goal.invariant-loop-event
invariant-loop-event l = (h : ℕ) → opens l.events h ≡ opens (drop l.event-index l.events) h
