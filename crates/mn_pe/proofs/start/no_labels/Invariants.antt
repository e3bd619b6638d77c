use Rattle.std.proofs.Common.{◌≡◌, map, take, None}
use Rattle.mn_topo.specs.declared.sites.SiteDef.{SiteDef}
use Rattle.mn_pe.proofs.start.no_labels.Given as goal

abbrev pub invariant-loop-site : goal.invariant-loop-site
invariant-loop-site l = l.out.items ≡ map (λ (site : SiteDef). None) (take l._site-index l.sites)
