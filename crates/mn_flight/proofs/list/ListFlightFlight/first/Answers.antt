use Rattle.std.proofs.Common.{sym}
use Rattle.mn_flight.proofs.Taken.{no_place, nth_taken}
use Rattle.mn_flight.proofs.list.ListFlightFlight.first.Goals as goal

pub returns-in_err-i-clause-value : goal.returns-in_err-i-clause-value
returns-in_err-i-clause-value g c =
    rw (c.from_residual.ensures, ← c.self.view_is)
    (sym (no_place c.args.channel c.deref.result.now c.self.inside.items.items 0 c.in_err-i.ensures c.deref.ensures.value))

pub returns-clause-value : goal.returns-clause-value
returns-clause-value g c =
    rw (← c.self.view_is)
    (sym (nth_taken c.args.channel 0 c.deref.result.now c.self.inside.items.items c.in_ok-i.i c.index.result.now c.in_ok-i.ensures c.deref.ensures.value
    c.index.ensures))
