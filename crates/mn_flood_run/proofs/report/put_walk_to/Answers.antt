use Rattle.std.proofs.Common.{◌∙◌}
use Rattle.mn_topo.specs.Network.{wiring_of}
use Rattle.mn_base.proofs.Bools.{test_same, other_test}
use Rattle.mn_tables.proofs.Telling.{tells_as, tells_nothing}
use Rattle.mn_flood_run.proofs.Rows.{no_walk_row, one_walk_row}
use Rattle.mn_flood_run.proofs.report.put_walk_to.Goals as goal

pub dist-dist-requires : goal.dist-dist-requires
dist-dist-requires g c = rw c.requires.sized c.requires.to

pub next-hop-requires : goal.next-hop-requires
next-hop-requires g c = rw c.requires.sized c.requires.to

pub returns-then-to-node : goal.returns-then-to-node
returns-then-to-node g c = λ view is. tells_as _ _ _ _ _ (tells_nothing _)
    (no_walk_row c.args.topology.now view c.args.node.0 c.args.to.0 (test_same c.args.to.0 c.args.node.0 c.if-to-node.true))

pub returns : goal.returns
returns g c = λ view is. tells_as _ _ _ _ _
    (c.put_walk.ensures view
    (c.dist-dist.ensures.value
    ∙ c.tree_is_computed.ensures.dist (wiring_of c.args.topology.now) view c.args.node.0 c.args.to.0 c.args.tree.now is c.laws.ensures.joins_nodes
    c.requires.node c.requires.to)
    (c.next-hop.ensures.value
    ∙ c.tree_is_computed.ensures.next (wiring_of c.args.topology.now) view c.args.node.0 c.args.to.0 c.args.tree.now is c.laws.ensures.joins_nodes
    c.requires.node c.requires.to))
    (one_walk_row c.args.topology.now view c.args.node.0 c.args.to.0 (other_test c.args.to.0 c.args.node.0 c.if-to-node.false))
