use Rattle.mn_topo.specs.Network.{wiring_of}
use Rattle.mn_ledger.specs.Ledger.{world_of}
use Rattle.mn_ledger.specs.Transport.{view_of}
use Rattle.mn_tables.proofs.Telling.{tells_as, tells_nothing}
use Rattle.mn_base.proofs.Bools.{test_same, other_test}
use Rattle.mn_report.proofs.Rows.{no_walk_row, one_walk_row}
use Rattle.mn_report.proofs.Walks.{walk_told}
use Rattle.mn_report.proofs.tree.put_walk_to.Goals as goal

pub dist-requires : goal.dist-requires
dist-requires g c = rw c.tree-tree.ensures.told.one_each.dists c.requires.to

pub next-requires : goal.next-requires
next-requires g c = rw c.tree-tree.ensures.told.one_each.dists c.requires.to

pub returns-then-to-node : goal.returns-then-to-node
returns-then-to-node g c = tells_as _ _ _ _ _ (tells_nothing _)
    (no_walk_row c.args.net.now.topology (world_of c.args.net.now.topology c.args.net.now.journal) c.args.node.0 c.args.to.0
    (test_same c.args.to.0 c.args.node.0 c.if-to-node.true))

pub returns : goal.returns
returns g c = tells_as _ _ _ _ _
    (walk_told c.args.net.now.topology c.topology.result.now c.topology-2.result.now
    (view_of (wiring_of c.args.net.now.topology) (world_of c.args.net.now.topology c.args.net.now.journal).views c.args.node.0) c.args.node.0
    c.args.to.0 c.tree-tree.result.now c.dist.result c.next.result _ _ _
    (c.tree_is_computed.ensures.dist, c.tree_is_computed.ensures.next) c.topology.ensures c.topology-2.ensures c.laws.ensures c.tree-tree.ensures.told
    c.requires.node c.requires.to c.dist.ensures.value c.next.ensures.value c.put_walk.ensures)
    (one_walk_row c.args.net.now.topology (world_of c.args.net.now.topology c.args.net.now.journal) c.args.node.0 c.args.to.0
    (other_test c.args.to.0 c.args.node.0 c.if-to-node.false))
