use Rattle.mn_topo.specs.Homes.{edge_of}
use Rattle.mn_ledger.specs.Ledger.{first_config}
use Rattle.mn_ledger.proofs.Members.{in_contained, contained_in}
use Rattle.mn_settled_laws.specs.Routes.{routes_of}
use Rattle.mn_candidates.specs.Routes.{routes_for}
use Rattle.mn_candidates.proofs.OfLedger.{found_held, held_found}
use Rattle.mn_candidates.proofs.laws.routes_are_the_ledgers.Goals as goal

pub returns : goal.returns
returns c = λ topology failure v address found lawful below are.
    c.candidates_are_of_the_topology.ensures topology failure (edge_of topology v) v address found (record {
      only = λ route has.
          let is = are.only route has in (
            contained_in (routes_of topology (first_config topology) (edge_of topology v) v) route
                (found_held topology lawful v below route (in_contained (routes_for topology v) route is.0)),
            is.1,
          );
      all = λ route has covered.
          are.all route (contained_in (routes_for topology v) route
          (held_found topology lawful v below route (in_contained (routes_of topology (first_config topology) (edge_of topology v) v) route has))) covered;
      ordered = are.ordered;
    })
