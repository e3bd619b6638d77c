use Rattle.std.proofs.Common.{◌≡◌, drop}
use Rattle.mn_bindings.specs.Tells.{opens}
use Rattle.mn_bindings.proofs.event.opens.Given as goal

abbrev pub invariant-loop-event : goal.invariant-loop-event
invariant-loop-event l = opens (drop l.event-index l.events) l.from.0 ≡ opens l.events l.from.0
