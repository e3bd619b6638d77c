use Rattle.std.proofs.Common.{sym, subst, All}
use Rattle.std.specs.List.{Contains}
use Rattle.std.proofs.lemmas.List.Elements.{All-push}
use Rattle.mn_candidates.specs.declared.route.Route.{Route}
use Rattle.mn_reach.specs.Plans.{IsPlaced, numbers_of}
use Rattle.mn_reach.proofs.Finding.{one_placed}
use Rattle.mn_reach.proofs.prospects.placed.Goals as goal

pub place_of-requires : goal.place_of-requires
place_of-requires c =
    subst (λ (r : Route). Contains (numbers_of c.args.edges.now) r.edge.0) (sym c.route-item.is)
    (c.requires c.loop-route.route-index c.route-item.result c.loop-route-test.true)

pub loop-route-preserved : goal.loop-route-preserved
loop-route-preserved c = record {
  routes = one_placed c.args.routes.now c.loop-route.found.items _ c.loop-route.route-index c.route-item.result c.place_of.result c.loop-route-test.true
      c.route-item.is
      c.loop-route.invariant.routes c.in_ok-push.ensures.items;
  placed = subst (All (IsPlaced (numbers_of c.args.edges.now))) (sym c.in_ok-push.ensures.items)
      (All-push (IsPlaced (numbers_of c.args.edges.now)) c.loop-route.found.items (record { route = c.route-item.result; place = c.place_of.result })
      c.loop-route.invariant.placed (record { place = c.place_of.ensures.within; edge = c.place_of.ensures.there }));
}
