use Rattle.std.proofs.Common.{◌≡◌, List, drop, ap, ◌+◌, ◌∷◌, ◌∙◌, sym}
use Rattle.mn_vpn_nlri.specs.declared.message.VpnRoute.{VpnRoute}
use Rattle.mn_rib_in.specs.Heard.{Heard}
use Rattle.mn_vrf.specs.Vrf.{Holding}
use Rattle.mn_pe.specs.Edge.{after_withdrawn}
use Rattle.mn_pe.specs.Pe.{after_giving}
use Rattle.mn_pe.proofs.Walks.{drop_at, drop_past}
use Rattle.mn_pe.proofs.hearing.hear_withdrawn.Goals as goal

-- one route more is withdrawn
pub loop-route-preserved : goal.loop-route-preserved
loop-route-preserved c =
    let rest : List VpnRoute = drop (c.loop-route.route-index + 1) c.args.routes.now in
    let step : drop c.loop-route.route-index c.args.routes.now ≡ c.route-item.result ∷ rest =
    drop_at c.args.routes.now c.loop-route.route-index c.route-item.result c.loop-route-test.true c.route-item.is in
    record {
      heard = ap (λ (heard : List Heard). after_withdrawn heard rest) c.hear_one_withdrawn.ensures.heard
          ∙ sym (ap (after_withdrawn c.loop-route.heard) step) ∙ c.loop-route.invariant.heard;
      vrfs = ap (λ (hs : List Holding). after_giving c.args.loopback c.args.peer.0 hs rest) c.hear_one_withdrawn.ensures.vrfs
          ∙ sym (ap (after_giving c.args.loopback c.args.peer.0 c.loop-route.vrfs.items) step) ∙ c.loop-route.invariant.vrfs;
      edge = c.hear_one_withdrawn.ensures.edge;
    }

pub returns-clause-heard : goal.returns-clause-heard
returns-clause-heard c =
    sym (ap (after_withdrawn c.loop-route.heard) (drop_past c.args.routes.now c.loop-route.route-index c.loop-route-test.false))
    ∙ c.loop-route.invariant.heard

pub returns-clause-vrfs : goal.returns-clause-vrfs
returns-clause-vrfs c =
    sym (ap (after_giving c.args.loopback c.args.peer.0 c.loop-route.vrfs.items)
    (drop_past c.args.routes.now c.loop-route.route-index c.loop-route-test.false)) ∙ c.loop-route.invariant.vrfs
