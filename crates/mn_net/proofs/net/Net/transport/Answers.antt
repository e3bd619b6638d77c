use Rattle.std.proofs.Common.{subst}
use Rattle.mn_frame_laws.specs.Given.{given}
use Rattle.mn_frame_laws.specs.Resting.{rested_of}
use Rattle.mn_transport_laws.specs.Stands.{IsNode}
use Rattle.mn_net_laws.proofs.Told.{net_is, node_in}
use Rattle.mn_ledger.specs.Ledger.{world_of}
use Rattle.mn_net_laws.specs.Now.{NetNow}
use Rattle.mn_net.proofs.Views.{node_stands}
use Rattle.mn_net.proofs.net.Net.transport.Goals as goal

pub node-requires : goal.node-requires
node-requires c = node_in _ _ c.self.view_is (net_is _ _ c.self.view_is c.self.invariant c.requires.works) c.args.node.0 c.requires.node

pub returns : goal.returns
returns c = record {
  told =
      subst (λ (n : NetNow). IsNode n.topology (given n.topology n.journal) (rested_of n.topology n.journal)
      (world_of n.topology n.journal) c.args.node.0 c.node.result.now)
      c.self.view_is
      (node_stands _ _ c.self.view_is c.self.invariant c.requires.works c.args.node.0 c.node.result.now c.node.ensures);
}
