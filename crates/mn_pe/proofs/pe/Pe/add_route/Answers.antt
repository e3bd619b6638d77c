use Rattle.std.proofs.Common.{true, sym, ◌∙◌, ap}
use Rattle.mn_vrf.specs.Vrf.{with_static}
use Rattle.mn_pe.specs.Edge.{after_vrf, vrf_of_site}
use Rattle.mn_pe.specs.Pe.{PeNow}
use Rattle.mn_pe.proofs.Adding.{added}
use Rattle.mn_pe.proofs.Becomes.{Becomes}
use Rattle.mn_pe.proofs.OneStatic.{spread_as, seen_vrf}
use Rattle.mn_pe.proofs.pe.Pe.add_route.Goals as goal
use Rattle.mn_pe.proofs.pe.Pe.add_route.Goals.{In-Ok}

-- the VRF has the static
has_it : (c : In-Ok) → Becomes c.spread_present.new.vrfs.items c.self.inside.sites.items c.self.inside.labels.items c.self.inside.loopbacks.items
    c.self.inside.heard.items (after_vrf c.args.self.now.edge (vrf_of_site c.args.self.now.edge c.args.site.0)
    (with_static (record { prefix = c.args.prefix; site = c.args.site.0 })))
has_it c =
    seen_vrf (with_static (record { prefix = c.args.prefix; site = c.args.site.0 })) c.self.view_is c.vrf_of-vrf.ensures
    (added c.vrf_of-vrf.result.0 c.args.prefix c.args.site.0 c.self.inside.vrfs.items c.spread_present.new.vrfs.items c.add_in.new.vrfs.items
    c.self.inside.sites.items c.self.inside.labels.items c.self.inside.loopbacks.items c.self.inside.heard.items c.in_default.ensures.ok
    (spread_as c.vrf_of-vrf.result.0 true c.deref.ensures.value c.new-route.ensures c.in-Ok.ensures) c.in_default.ensures.refusal
    (c.self.invariant c.if-self.false)
    (ap (λ (p : PeNow). vrf_of_site p.edge c.args.site.0) c.self.view_is ∙ sym c.vrf_of-vrf.ensures))

pub invariant_of-self-2 : goal.invariant_of-self-2
invariant_of-self-2 c _ = (has_it (goal.at.invariant_of-self-2 c).In-Ok).sound

pub returns-clause-ok : goal.returns-clause-ok
returns-clause-ok c = (has_it (goal.at.returns-clause-ok c).In-Ok).is
