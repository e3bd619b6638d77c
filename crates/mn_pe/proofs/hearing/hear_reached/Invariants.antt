use Rattle.std.proofs.Common.{◌≡◌, drop}
use Rattle.mn_pe.specs.Edge.{after_reached}
use Rattle.mn_pe.specs.Pe.{AreOfEdge, AreLabelled, after_taking}
use Rattle.mn_pe.proofs.hearing.hear_reached.Given as goal

-- the routes to come end it
abbrev pub invariant-loop-route : goal.invariant-loop-route
invariant-loop-route l = record {
  heard : after_reached l.targets l.heard (drop l.route-index l.routes) ≡ after_reached l.targets l.fn.heard l.routes;
  vrfs : after_taking l.loopback l.peer.0 l.targets l.vrfs.items
      (drop l.route-index l.routes) ≡ after_taking l.loopback l.peer.0 l.targets l.fn.vrfs.items l.routes;
  edge : AreOfEdge l.vrfs.items l.heard l.loopback l.peer.0;
  labels : AreLabelled (drop l.route-index l.routes);
}
