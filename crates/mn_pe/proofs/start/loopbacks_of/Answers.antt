use Rattle.std.proofs.Common.{get_or, refl}
use Rattle.std.proofs.lemmas.List.{get_or_default}
use Rattle.mn_topo.specs.declared.nodes.Node.{Node}
use Rattle.mn_pe.proofs.Walks.{took, took_all}
use Rattle.mn_pe.proofs.start.loopbacks_of.Goals as goal

pub loop-node-preserved : goal.loop-node-preserved
loop-node-preserved c =
    let one : Node = get_or c.args.nodes.now c.loop-node.node-index (record { loopback = 0 }) in
    took (λ (node : Node). node.loopback) c.args.nodes.now c.loop-node.node-index one c.loop-node.out.items c.push.new.self.items one.loopback
    c.loop-node-test.true (get_or_default c.args.nodes.now c.loop-node.node-index (record { loopback = 0 }) one c.loop-node-test.true) c.loop-node.invariant
    refl c.in_ok-push.ensures.items

pub returns : goal.returns
returns c = took_all (λ (node : Node). node.loopback) c.args.nodes.now c.loop-node.node-index c.loop-node.out.items c.loop-node-test.false c.loop-node.invariant
