use Rattle.std.proofs.Common.{◌≡◌, drop}
use Rattle.mn_pe.specs.Edge.{after_withdrawn}
use Rattle.mn_pe.specs.Pe.{AreOfEdge, after_giving}
use Rattle.mn_pe.proofs.hearing.hear_withdrawn.Given as goal

-- the routes to come end it
abbrev pub invariant-loop-route : goal.invariant-loop-route
invariant-loop-route l = record {
  heard : after_withdrawn l.heard (drop l.route-index l.routes) ≡ after_withdrawn l.fn.heard l.routes;
  vrfs : after_giving l.loopback l.peer.0 l.vrfs.items (drop l.route-index l.routes) ≡ after_giving l.loopback l.peer.0 l.fn.vrfs.items l.routes;
  edge : AreOfEdge l.vrfs.items l.heard l.loopback l.peer.0;
}
