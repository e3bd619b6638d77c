use Rattle.std.proofs.Common.{ℕ, Option, None, refl}
use Rattle.mn_topo.specs.declared.sites.SiteDef.{SiteDef}
use Rattle.mn_pe.proofs.Walks.{took, took_all}
use Rattle.mn_pe.proofs.start.no_labels.Goals as goal

pub loop-site-preserved : goal.loop-site-preserved
loop-site-preserved c =
    took (λ (site : SiteDef). let none : Option ℕ = None in none) c.args.sites.now c.loop-site._site-index c._site-item.result c.loop-site.out.items
    c.push.new.self.items None
    c.loop-site-test.true c._site-item.is c.loop-site.invariant refl c.in_ok-push.ensures.items

pub returns : goal.returns
returns c = took_all (λ (site : SiteDef). let none : Option ℕ = None in none) c.args.sites.now c.loop-site._site-index c.loop-site.out.items
    c.loop-site-test.false c.loop-site.invariant
