use Rattle.std.proofs.Common.{arith, sym, ◌∙◌, ap}
use Rattle.mn_pe.specs.Edge.{vrf_of_site, after_attach}
use Rattle.mn_pe.specs.Pe.{PeNow}
use Rattle.mn_pe.proofs.Attaching.{attached}
use Rattle.mn_pe.proofs.Becomes.{Becomes, seen}
use Rattle.mn_pe.proofs.pe.Pe.attach.Goals as goal
use Rattle.mn_pe.proofs.pe.Pe.attach.Goals.{In-Ok}

-- the site has its label
labelled : (c : In-Ok) → Becomes c.switch_site.new.vrfs.items c.self.inside.sites.items c.set_label.new.labels.items c.self.inside.loopbacks.items
    c.self.inside.heard.items (after_attach c.args.self.now.edge c.args.site.0 c.args.label)
labelled c =
    seen (λ edge. after_attach edge c.args.site.0 c.args.label) c.self.view_is
    (attached c.args.site.0 c.args.label c.self.inside.vrfs.items c.self.inside.sites.items c.self.inside.labels.items c.self.inside.loopbacks.items
    c.self.inside.heard.items (c.self.invariant c.if-self.false) (omega arith) c.switch_site.new.vrfs.items c.set_label.new.labels.items c.vrf_of-vrf.result.0
    c.set_label.ensures (ap (λ (p : PeNow). vrf_of_site p.edge c.args.site.0) c.self.view_is ∙ sym c.vrf_of-vrf.ensures) c.in-Ok.ensures)

pub invariant_of-self-2 : goal.invariant_of-self-2
invariant_of-self-2 c _ = (labelled (goal.at.invariant_of-self-2 c).In-Ok).sound

pub returns-clause-ok : goal.returns-clause-ok
returns-clause-ok c = (labelled (goal.at.returns-clause-ok c).In-Ok).is
