use Rattle.std.proofs.Common.{List, ◌++◌, ap}
use Rattle.std.specs.List.{flat_map}
use Rattle.mn_vrf.specs.Vrf.{VrfState, Static}
use Rattle.mn_pe.specs.Held.{Exported}
use Rattle.mn_pe.specs.Exports.{export_over}
use Rattle.mn_pe.proofs.Walks.{put_more}
use Rattle.mn_pe.proofs.export.put_over.Goals as goal

pub loop-route-preserved : goal.loop-route-preserved
loop-route-preserved c =
    let vrf : VrfState = c.args.vrf.now.vrf in
    let puts : Static → List Exported = export_over c.args.labels.now vrf vrf.exports c.args.site.0 in
    put_more c.loop-route.out.items (puts c.in-Some.route.now) c.put_if_over.new.out.items
    (flat_map puts c.loop-route.route-iterator) (flat_map puts c.next.new.self) (c.args.out.now.items ++ flat_map puts vrf.statics)
    (ap (flat_map puts) c.in-Some.ensures.steps) c.in_ok-put_if_over.ensures c.loop-route.invariant
