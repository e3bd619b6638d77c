use Rattle.std.proofs.Common.{sym, ◌∙◌, ap, subst, All, [], map}
use Rattle.std.specs.Prelude.{unwrap_or}
use Rattle.std.specs.List.{Contains, flat_map}
use Rattle.mn_topo.specs.Homes.{vrf_of}
use Rattle.mn_candidates.specs.declared.route.Route.{Route}
use Rattle.mn_way.specs.Way.{links_on, way}
use Rattle.mn_way.specs.Switched.{edge_at}
use Rattle.mn_reach.specs.declared.plan.Candidate.{Candidate}
use Rattle.mn_reach.specs.Plans.{IsPlaced, numbers_of}
use Rattle.mn_reach.proofs.Finding.{at_edges, is_for}
use Rattle.mn_reach.proofs.prospects.prospect_for.Goals as goal

pub placed-requires : goal.placed-requires
placed-requires c =
    subst (All (λ (r : Route). Contains (numbers_of c.args.ground.edges.now) r.edge.0)) (sym c.as_slice.ensures.value)
    (at_edges c.args.ground.topology.now (vrf_of c.args.ground.topology.now c.args.pair.site.0) c.args.pair.address c.args.ground.edges.now c.args.routes.now
    c.in_ok-found.found.items
    c.laws.ensures c.requires.edges c.requires.routes c.in_ok-found.ensures)

pub returns : goal.returns
returns c =
    is_for c.args.ground.topology.now c.args.ground.ways.now c.home_of-home.result.0 c.args.pair c.args.ground.edges.now c.args.routes.now
    c.in_ok-found.found.items
    c.from_vec.result
    c.from_vec-2.result (c.routes_are_the_ledgers.ensures) c.laws.ensures c.home_of-home.ensures.home c.requires.fresh c.requires.edges c.requires.site
    c.requires.routes
    c.in_ok-found.ensures (ap (map (λ (x : Candidate). x.route)) c.from_vec.ensures ∙ c.in_ok-candidates.ensures.routes ∙ c.as_slice.ensures.value)
    (subst (All (IsPlaced (numbers_of c.args.ground.edges.now))) (sym c.from_vec.ensures) c.in_ok-candidates.ensures.placed)
    (λ wiring over. ap (map (λ l. l.0)) c.from_vec-2.ensures ∙ c.in_ok-links.ensures wiring over
    ∙ ap (flat_map (λ (x : Candidate). links_on (unwrap_or (way wiring c.args.ground.ways.now.up c.home_of-home.result.0
    (edge_at c.args.ground.ways.now x.place)) [])))
    (c.as_slice-2.ensures.value ∙ sym c.from_vec.ensures))
