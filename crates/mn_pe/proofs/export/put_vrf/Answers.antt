use Rattle.std.proofs.Common.{List, None, ◌++◌, ap, ◌∙◌, sym}
use Rattle.std.specs.Prelude.{slice_index_or}
use Rattle.std.specs.List.{flat_map}
use Rattle.mn_base.specs.declared.numbers.SiteNo.{SiteNo}
use Rattle.mn_vrf.specs.Vrf.{VrfState, Static}
use Rattle.mn_pe.specs.Held.{Exported, export_at}
use Rattle.mn_pe.proofs.Walks.{put_more}
use Rattle.mn_pe.proofs.export.put_vrf.Goals as goal

pub loop-route-preserved : goal.loop-route-preserved
loop-route-preserved c =
    let vrf : VrfState = c.args.vrf.now.vrf in
    let puts : Static → List Exported = λ static. export_at vrf vrf.exports static (slice_index_or c.args.labels.now static.site None) in
    put_more c.loop-route.out.items (export_at vrf vrf.exports c.in-Some.route.now c.label_at.result) c.put_static.new.out.items
    (flat_map puts c.loop-route.route-iterator) (flat_map puts c.next.new.self) (c.args.out.now.items ++ flat_map puts vrf.statics)
    (ap (flat_map puts) c.in-Some.ensures.steps
    ∙ ap (λ label. export_at vrf vrf.exports c.in-Some.route.now label ++ flat_map puts c.next.new.self)
    (sym (c.label_at.ensures ∙ ap (λ (s : SiteNo). slice_index_or c.args.labels.now s.0 None) c.site.ensures)))
    c.in_ok-put_static.ensures c.loop-route.invariant
