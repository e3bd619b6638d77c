use Rattle.std.proofs.Common.{drop, ap, ◌+◌}
use Rattle.mn_pe.specs.Start.{vrf_if, vrfs_from}
use Rattle.mn_pe.specs.Pe.{told}
use Rattle.mn_pe.proofs.Walks.{drop_at, put_more}
use Rattle.mn_pe.proofs.start.vrfs_of.Goals as goal

-- one more is the node's, or isn't
pub loop-at-preserved : goal.loop-at-preserved
loop-at-preserved c = record {
  so_far = put_more (told c.loop-at.out.items) (vrf_if c.args.sites.now c.args.node.0 c.loop-at.at c.index-vrfs-at.result) (told c.put_if_of.new.out.items)
      (vrfs_from c.args.sites.now c.args.node.0 c.loop-at.at (drop c.loop-at.at c.args.vrfs.now))
      (vrfs_from c.args.sites.now c.args.node.0 (c.loop-at.at + 1) (drop (c.loop-at.at + 1) c.args.vrfs.now))
      (vrfs_from c.args.sites.now c.args.node.0 0 c.args.vrfs.now)
      (ap (vrfs_from c.args.sites.now c.args.node.0 c.loop-at.at)
      (drop_at c.args.vrfs.now c.loop-at.at c.index-vrfs-at.result c.loop-at-test.true c.index-vrfs-at.is))
      c.in_ok-put_if_of.ensures.told c.loop-at.invariant.so_far;
  none = c.in_ok-put_if_of.ensures.held c.loop-at.invariant.none;
}
