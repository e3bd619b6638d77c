use Rattle.mn_topo.proofs.Edges.{put_vrf}
use Rattle.mn_topo.proofs.vrfs.Vrfs.put.Goals as goal

pub invariant_of-self-2 : goal.invariant_of-self-2
invariant_of-self-2 c =
    put_vrf c.args.vrf _ _ _ _ _ c.self.invariant c.in_ok-add_edge.ensures.ok c.in_ok-reserve.ensures.items c.in_ok-push.ensures.items
