use Rattle.std.proofs.Common.{◌<◌, ◌∙◌, ap, subst, sym, refl, length, None}
use Rattle.std.specs.Prelude.{slice_index_or, option_map}
use Rattle.mn_routing_laws.proofs.Enters.{some_edge}
use Rattle.mn_routing.proofs.Edges.{within}
use Rattle.mn_routing.proofs.routes.Routes.pe_of.Goals as goal

pub edge-requires : goal.edge-requires
edge-requires c =
    subst (λ k. k < length c.args.self.now.edges) (sym c.edge_of-edge.ensures.edge)
    (within c.args.topology.now c.laws.ensures c.args.self.now c.args.vrf.0 c.requires.vrf c.requires.stands.0 c.requires.stands.1 c.args.self.now.edges
    refl)

pub unreachable-requires : goal.unreachable-requires
unreachable-requires c =
    some_edge c.args.topology.now c.laws.ensures c.args.self.now c.args.vrf.0 c.requires.vrf c.requires.stands.0 c.requires.stands.1
    (ap (λ k. slice_index_or c.args.self.now.edges k None) (sym c.edge_of-edge.ensures.edge) ∙ sym c.edge.ensures ∙ ap (option_map _) c.in_default.is)

pub returns : goal.returns
returns c = ap (λ k. slice_index_or c.args.self.now.edges k None) (sym c.edge_of-edge.ensures.edge) ∙ sym c.in-Some.ensures
