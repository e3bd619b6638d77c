use Rattle.std.proofs.Common.{arith}
use Rattle.mn_transport_laws.specs.Carried.{Carried}
use Rattle.mn_transport.specs.Inside.{carried_in}
use Rattle.mn_transport_laws.proofs.Outer.{node-there, edge-there, outer-told}
use Rattle.mn_transport.proofs.transport.Transport.outer.Goals as goal

pub index-requires : goal.index-requires
index-requires c =
    let old : Carried = carried_in c.self.inside in
    let there =
    node-there c.args.topology.now c.laws.ensures old c.args.self.now c.self.view_is c.args.node.0 c.from.result c.requires.node c.from.ensures
    c.requires.stands.0 c.requires.stands.1 in
    omega (arith, there, c.self.inside.nodes.ok.0)

pub outer-requires : goal.outer-requires
outer-requires c =
    let old : Carried = carried_in c.self.inside in
    edge-there c.args.topology.now c.laws.ensures old c.args.self.now c.self.view_is c.args.node.0 c.from.result c.requires.node c.from.ensures
    c.requires.stands.0 c.requires.stands.1 c.index.result.now c.index.ensures
    c.args.edge.0 c.requires.edge

pub returns-clause-told : goal.returns-clause-told
returns-clause-told c =
    let old : Carried = carried_in c.self.inside in
    λ journal stands.
    outer-told c.args.topology.now c.laws.ensures old c.args.self.now c.self.view_is c.args.node.0 c.from.result c.requires.node c.from.ensures journal
    stands c.index.result.now c.index.ensures
    c.args.edge.0 c.requires.edge c.outer.result c.outer.ensures.way
