use Rattle.std.proofs.Common.{◌≡◌}
use Rattle.mn_pe.specs.Pe.{after_forgetting}
use Rattle.mn_pe.proofs.hearing.forget_in_all.Given as goal

-- the routes to come end it
abbrev pub invariant-loop-route : goal.invariant-loop-route
invariant-loop-route l = after_forgetting l.loopback l.peer.0 l.vrfs.items
    l.route-iterator ≡ after_forgetting l.loopback l.peer.0 l.fn.vrfs.items l.heard
