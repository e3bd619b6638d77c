use Rattle.std.proofs.Common.{◌≡◌}
use Rattle.mn_pe.specs.Switched.{after_heard}
use Rattle.mn_pe.proofs.switching.turn_far.Given as goal

-- the routes to come end it
abbrev pub invariant-loop-route : goal.invariant-loop-route
invariant-loop-route l =
    after_heard l.on l.target l.loopback l.peer.0 l.imports l.held l.route-iterator ≡ after_heard l.on l.target l.loopback l.peer.0 l.imports
    l.fn.held l.heard
