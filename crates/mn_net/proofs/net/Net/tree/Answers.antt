use Rattle.std.proofs.Common.{subst}
use Rattle.mn_linkdb.specs.Trees.{IsTree}
use Rattle.mn_topo.specs.Network.{wiring_of}
use Rattle.mn_ledger.specs.Transport.{view_of}
use Rattle.mn_net_laws.proofs.Told.{net_is, node_in, tree_told}
use Rattle.mn_ledger.specs.Ledger.{world_of}
use Rattle.mn_net_laws.specs.Now.{NetNow}
use Rattle.mn_net.proofs.Views.{node_stands}
use Rattle.mn_net.proofs.net.Net.tree.Goals as goal

pub node-requires : goal.node-requires
node-requires c = node_in _ _ c.self.view_is (net_is _ _ c.self.view_is c.self.invariant c.requires.works) c.args.node.0 c.requires.node

pub returns : goal.returns
returns c = record {
  told =
      subst (λ (n : NetNow). IsTree (wiring_of n.topology) (view_of (wiring_of n.topology) (world_of n.topology n.journal).views c.args.node.0)
      c.args.node.0 c.tree.result.now) c.self.view_is
      (tree_told _ _ _ _ c.args.node.0 c.node.result.now c.tree.result.now
      (node_stands _ _ c.self.view_is c.self.invariant c.requires.works c.args.node.0 c.node.result.now c.node.ensures) c.tree.ensures);
}
