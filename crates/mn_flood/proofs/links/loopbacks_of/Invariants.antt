use Rattle.std.proofs.Common.{◌≡◌, map, take}
use Rattle.mn_flood.proofs.links.loopbacks_of.Given as goal

abbrev pub invariant-loop-node : goal.invariant-loop-node
invariant-loop-node l = l.loopbacks.items ≡ map (λ node. node.loopback) (take l.node-index l.nodes)
