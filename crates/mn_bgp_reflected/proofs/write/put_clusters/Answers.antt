use Rattle.mn_bgp_reflected.proofs.Values.{all_put}
use Rattle.mn_bgp_reflected.proofs.write.put_clusters.Goals as goal

pub returns : goal.returns
returns c = all_put c.clusters.out.items c.args.out.now.items c.args.clusters.now c.clusters.cluster-index c.clusters-test.false c.clusters.invariant
