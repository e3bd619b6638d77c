use Rattle.std.proofs.Common.{◌≡◌, Some, None, sym, ◌∙◌, ap}
use Rattle.std.specs.Prelude.{slice_index_or}
use Rattle.mn_pe.specs.Edge.{vrf_of_site, after_detach}
use Rattle.mn_pe.specs.Pe.{PeNow}
use Rattle.mn_pe.proofs.Attaching.{detached}
use Rattle.mn_pe.proofs.Becomes.{Becomes, seen}
use Rattle.mn_pe.proofs.OneStatic.{some_is}
use Rattle.mn_pe.proofs.pe.Pe.detach.Goals as goal
use Rattle.mn_pe.proofs.pe.Pe.detach.Goals.{In-Ok}

-- the site has no label any longer
unlabelled : (c : In-Ok) → Becomes c.switch_site.new.vrfs.items c.self.inside.sites.items c.set_label.new.labels.items c.self.inside.loopbacks.items
    c.self.inside.heard.items (after_detach c.args.self.now.edge c.args.site.0)
unlabelled c =
    let found = some_is c.attached.result c.is_none.result c.is_none.ensures c.if-is_none.false in
    let has : slice_index_or c.self.inside.labels.items c.args.site.0 None ≡ Some found.0 =
    ap (λ (p : PeNow). slice_index_or p.edge.labels c.args.site.0 None) c.self.view_is ∙ sym c.attached.ensures ∙ found.1 in
    seen (λ edge. after_detach edge c.args.site.0) c.self.view_is
    (detached c.args.site.0 found.0 c.self.inside.vrfs.items c.self.inside.sites.items c.self.inside.labels.items c.self.inside.loopbacks.items
    c.self.inside.heard.items (c.self.invariant c.if-self.false) has c.switch_site.new.vrfs.items c.set_label.new.labels.items c.vrf_of-vrf.result.0
    c.set_label.ensures (ap (λ (p : PeNow). vrf_of_site p.edge c.args.site.0) c.self.view_is ∙ sym c.vrf_of-vrf.ensures) c.in-Ok.ensures)

pub invariant_of-self-2 : goal.invariant_of-self-2
invariant_of-self-2 c _ = (unlabelled (goal.at.invariant_of-self-2 c).In-Ok).sound

pub returns-clause-ok : goal.returns-clause-ok
returns-clause-ok c = (unlabelled (goal.at.returns-clause-ok c).In-Ok).is
