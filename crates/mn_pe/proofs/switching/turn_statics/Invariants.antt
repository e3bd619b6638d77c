use Rattle.std.proofs.Common.{◌≡◌}
use Rattle.mn_pe.specs.Switched.{after_statics}
use Rattle.mn_pe.proofs.switching.turn_statics.Given as goal

-- the routes to come end it
abbrev pub invariant-loop-route : goal.invariant-loop-route
invariant-loop-route l =
    after_statics l.on l.teller.vrf.number l.labels l.held l.route-iterator
    ≡ after_statics l.on l.teller.vrf.number l.labels l.fn.held l.teller.vrf.statics
