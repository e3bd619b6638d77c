use Rattle.std.proofs.Common.{◌≡◌, map, take}
use Rattle.mn_topo.specs.declared.nodes.Node.{Node}
use Rattle.mn_transport.proofs.sites.loopbacks_of.Given as goal

abbrev pub invariant-loop-node : goal.invariant-loop-node
invariant-loop-node l = l.loopbacks.items ≡ map (λ (node : Node). node.loopback) (take l.node-index l.nodes)
