use Rattle.std.proofs.Common.{◌≡◌}
use Rattle.mn_pe.specs.Switched.{after_over}
use Rattle.mn_pe.proofs.switching.turn_over.Given as goal

-- the routes to come end it
abbrev pub invariant-loop-route : goal.invariant-loop-route
invariant-loop-route l =
    after_over l.on l.site.0 l.source l.held l.route-iterator ≡ after_over l.on l.site.0 l.source l.fn.held l.teller.vrf.statics
