use Rattle.std.proofs.Common.{◌≡◌, List, drop, ap, ◌+◌, ◌∷◌, ◌∙◌, sym, subst}
use Rattle.mn_vpn_nlri.specs.declared.message.VpnRoute.{VpnRoute}
use Rattle.mn_rib_in.specs.Heard.{Heard}
use Rattle.mn_vrf.specs.Vrf.{Holding}
use Rattle.mn_pe.specs.Edge.{after_reached}
use Rattle.mn_pe.specs.Pe.{AreLabelled, after_taking}
use Rattle.mn_pe.proofs.Walks.{drop_at, drop_past}
use Rattle.mn_pe.proofs.hearing.hear_reached.Goals as goal

pub hear_one_reached-requires-clause-label : goal.hear_one_reached-requires-clause-label
hear_one_reached-requires-clause-label c =
    (subst AreLabelled (drop_at c.args.routes.now c.loop-route.route-index c.route-item.result c.loop-route-test.true c.route-item.is)
    c.loop-route.invariant.labels).0

-- one route more is received
pub loop-route-preserved : goal.loop-route-preserved
loop-route-preserved c =
    let rest : List VpnRoute = drop (c.loop-route.route-index + 1) c.args.routes.now in
    let step : drop c.loop-route.route-index c.args.routes.now ≡ c.route-item.result ∷ rest =
    drop_at c.args.routes.now c.loop-route.route-index c.route-item.result c.loop-route-test.true c.route-item.is in
    record {
      heard = ap (λ (heard : List Heard). after_reached c.args.targets.now heard rest) c.in_ok-hear_one_reached.ensures.heard
          ∙ sym (ap (after_reached c.args.targets.now c.loop-route.heard) step) ∙ c.loop-route.invariant.heard;
      vrfs = ap (λ (hs : List Holding). after_taking c.args.loopback c.args.peer.0 c.args.targets.now hs rest) c.in_ok-hear_one_reached.ensures.vrfs
          ∙ sym (ap (after_taking c.args.loopback c.args.peer.0 c.args.targets.now c.loop-route.vrfs.items) step) ∙ c.loop-route.invariant.vrfs;
      edge = c.in_ok-hear_one_reached.ensures.edge;
      labels = (subst AreLabelled step c.loop-route.invariant.labels).1;
    }

pub returns-clause-heard : goal.returns-clause-heard
returns-clause-heard c =
    sym (ap (after_reached c.args.targets.now c.loop-route.heard) (drop_past c.args.routes.now c.loop-route.route-index c.loop-route-test.false))
    ∙ c.loop-route.invariant.heard

pub returns-clause-vrfs : goal.returns-clause-vrfs
returns-clause-vrfs c =
    sym (ap (after_taking c.args.loopback c.args.peer.0 c.args.targets.now c.loop-route.vrfs.items)
    (drop_past c.args.routes.now c.loop-route.route-index c.loop-route-test.false)) ∙ c.loop-route.invariant.vrfs
