use Rattle.std.proofs.Common.{ap}
use Rattle.mn_topo.proofs.Ends.{leads_forth, leads_back}
use Rattle.mn_topo.proofs.topology.Topology.link_of.Goals as goal

pub returns-then-link-a-clause-leads : goal.returns-then-link-a-clause-leads
returns-then-link-a-clause-leads c =
    leads_forth c.args.self.now _ c.self.inside.parts.links c.args.a.0 c.args.b.0 c.in_ok-number.number c.as_slice.ensures
    (ap (λ network. network.links) c.self.view_is) c.in_ok-number.ensures.value c.if-link-a.true

pub returns-else-link-a-clause-leads : goal.returns-else-link-a-clause-leads
returns-else-link-a-clause-leads c =
    leads_back c.args.self.now _ c.self.inside.parts.links c.args.a.0 c.args.b.0 c.in_ok-number.number c.as_slice.ensures
    (ap (λ network. network.links) c.self.view_is) c.in_ok-number.ensures.value c.if-link-a.false
