use Rattle.std.proofs.Common.{◌≡◌, ◌+◌, arith, sym, ◌∙◌, true, false}
use Rattle.mn_files.proofs.Places.{table_more, table_whole, count_more}
use Rattle.mn_files.proofs.edges.EdgePlaces.new.Goals as goal
use Rattle.mn_files.proofs.edges.EdgePlaces.new.Goals.{then-is_edge, else-is_edge}

pub loop-node-preserved : goal.loop-node-preserved
loop-node-preserved c =
    let rows =
    table_more c.args.topology.now c.loop-node.before.items c.push.new.self.items c.loop-node.node c.loop-node.count c.loop-node.invariant.0
    c.loop-node.invariant.1 c.in_ok-push.ensures.items in
    elim c.if-is_edge.branch [
      | then-is_edge w ↦
          let one : c.if-is_edge.count ≡ c.loop-node.count + 1 = w.count-is in (
            rows,
            count_more c.args.topology.now c.loop-node.node c.loop-node.count c.if-is_edge.count true
                (sym c.is_edge.ensures ∙ w.if-is_edge.true) c.loop-node.invariant.1 one,
            omega (arith, one, c.loop-node.invariant.2),
          )
      | else-is_edge w ↦
          let none : c.if-is_edge.count ≡ c.loop-node.count = w.count-is in (
            rows,
            count_more c.args.topology.now c.loop-node.node c.loop-node.count c.if-is_edge.count false
                (sym c.is_edge.ensures ∙ w.if-is_edge.false) c.loop-node.invariant.1 (omega (arith, none)),
            omega (arith, none, c.loop-node.invariant.2),
          )
    ]

pub returns : goal.returns
returns c =
    table_whole c.args.topology.now c.nodes-node-end.result.now c.loop-node.before.items c.push-2.new.self.items c.loop-node.node c.loop-node.count
    c.nodes-node-end.ensures (omega arith) (omega arith) c.loop-node.invariant.0 c.loop-node.invariant.1
    c.in_ok-push-2.ensures.items
