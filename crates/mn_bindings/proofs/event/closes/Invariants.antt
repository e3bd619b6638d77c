use Rattle.std.proofs.Common.{◌≡◌, drop}
use Rattle.mn_bindings.specs.Tells.{closes}
use Rattle.mn_bindings.proofs.event.closes.Given as goal

abbrev pub invariant-loop-event : goal.invariant-loop-event
invariant-loop-event l = closes (drop l.event-index l.events) l.from.0 ≡ closes l.events l.from.0
