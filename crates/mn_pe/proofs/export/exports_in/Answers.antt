use Rattle.std.proofs.Common.{List, drop, ap, ◌+◌}
use Rattle.mn_vrf.specs.Vrf.{Holding}
use Rattle.mn_pe.specs.Exports.{exports_by, exports_among}
use Rattle.mn_pe.specs.Pe.{told}
use Rattle.mn_pe.proofs.Walks.{drop_at, drop_past, put_more, put_all}
use Rattle.mn_pe.proofs.export.exports_in.Goals as goal

pub loop-vrf-preserved : goal.loop-vrf-preserved
loop-vrf-preserved c =
    put_more c.loop-vrf.out.items (exports_by c.args.labels.now c.vrf-item.result.vrf) c.put_vrf.new.out.items
    (exports_among c.args.labels.now (told (drop c.loop-vrf.vrf-index c.args.vrfs.now)))
    (exports_among c.args.labels.now (told (drop (c.loop-vrf.vrf-index + 1) c.args.vrfs.now))) (exports_among c.args.labels.now (told c.args.vrfs.now))
    (ap (λ (hs : List Holding). exports_among c.args.labels.now (told hs))
    (drop_at c.args.vrfs.now c.loop-vrf.vrf-index c.vrf-item.result c.loop-vrf-test.true c.vrf-item.is)) c.in_ok-put_vrf.ensures c.loop-vrf.invariant

pub returns : goal.returns
returns c =
    put_all c.loop-vrf.out.items (exports_among c.args.labels.now (told (drop c.loop-vrf.vrf-index c.args.vrfs.now)))
    (exports_among c.args.labels.now (told c.args.vrfs.now))
    (ap (λ (hs : List Holding). exports_among c.args.labels.now (told hs)) (drop_past c.args.vrfs.now c.loop-vrf.vrf-index c.loop-vrf-test.false))
    c.loop-vrf.invariant
