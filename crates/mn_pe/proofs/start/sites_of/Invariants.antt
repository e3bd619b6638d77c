use Rattle.std.proofs.Common.{◌≡◌, map, take}
use Rattle.mn_topo.specs.declared.sites.SiteDef.{SiteDef}
use Rattle.mn_pe.proofs.start.sites_of.Given as goal

abbrev pub invariant-loop-site : goal.invariant-loop-site
invariant-loop-site l = l.out.items ≡ map (λ (site : SiteDef). site.vrf) (take l.site-index l.sites)
