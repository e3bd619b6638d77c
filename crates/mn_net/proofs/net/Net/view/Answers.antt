use Rattle.std.proofs.Common.{◌∙◌, map, ap}
use Rattle.mn_wiring.specs.Wiring.{links_of}
use Rattle.mn_topo.specs.Network.{wiring_of}
use Rattle.mn_wiring.specs.Wiring.{Wiring}
use Rattle.mn_node.specs.Node.{Node}
use Rattle.mn_net_laws.proofs.Told.{net_is, node_in}
use Rattle.mn_ledger.specs.Ledger.{world_of}
use Rattle.mn_net_laws.specs.Now.{NetNow}
use Rattle.mn_net.proofs.net.Net.view.Goals as goal

pub node-requires : goal.node-requires
node-requires c = node_in _ _ c.self.view_is (net_is _ _ c.self.view_is c.self.invariant c.requires.works) c.args.node.0 c.requires.node

pub returns-clause-ends : goal.returns-clause-ends
returns-clause-ends c =
    let is = net_is _ _ c.self.view_is c.self.invariant c.requires.works in
    c.view.ensures.ends ∙ ap (λ (wiring : Wiring). wiring.ends) (is.stands.transport.nodes c.args.node.0 c.node.result.now c.node.ensures).wiring
    ∙ ap (λ (n : NetNow). n.topology.links) c.self.view_is

pub returns-clause-told : goal.returns-clause-told
returns-clause-told c =
    let is = net_is _ _ c.self.view_is c.self.invariant c.requires.works in
    c.view.ensures.counts ∙ ap (λ (n : Node). n.learned) (is.stands.transport.nodes c.args.node.0 c.node.result.now c.node.ensures).node_is
    ∙ ap (λ (n : NetNow). map ((world_of n.topology n.journal).views.learned c.args.node.0) (links_of (wiring_of n.topology))) c.self.view_is
