use Rattle.std.proofs.Common.{arith}
use Rattle.mn_pe.specs.Pe.{offering}
use Rattle.mn_pe.proofs.Walks.{one_changed}
use Rattle.mn_pe.proofs.hearing.offer_in_all.Goals as goal

-- one more VRF is changed
pub loop-at-preserved : goal.loop-at-preserved
loop-at-preserved c =
    one_changed (offering (c.args.prefix, c.args.source) c.args.targets.now) c.args.vrfs.now.items c.loop-at.vrfs.items c.loop-at.at c.index_mut.result.now
    c.offer_route.new.vrf
    (grind (arith, c.loop-at-test.true, c.loop-at.auto.at-end, c.len-at-end.ensures)) c.loop-at.invariant c.index_mut.ensures.value
    c.in_ok-offer_route.ensures.ok
