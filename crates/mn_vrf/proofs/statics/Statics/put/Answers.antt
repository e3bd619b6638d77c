use Rattle.std.proofs.Common.{◌∙◌, ap, subst, sym}
use Rattle.std.specs.Map.{values_of}
use Rattle.mn_base.specs.Ordered.{with_one}
use Rattle.mn_by_key_laws.proofs.ByKey.{with_put, kept_put}
use Rattle.mn_vrf.specs.Vrf.{Static, static_before}
use Rattle.mn_vrf.specs.Kept.{AreByPrefix}
use Rattle.mn_vrf.proofs.ByPrefix.{by_prefix}
use Rattle.mn_vrf.proofs.statics.Statics.put.Goals as goal

pub invariant_of-self-2 : goal.invariant_of-self-2
invariant_of-self-2 c =
    subst AreByPrefix (sym c.in_ok-insert.ensures.entries)
    (kept_put by_prefix c.self.inside.by_prefix.entries c.route.inside.prefix c.args.route (ap (λ (s : Static). s.prefix) c.route.view_is)
    c.self.invariant)

pub returns-clause-ok : goal.returns-clause-ok
returns-clause-ok c =
    ap values_of c.in_ok-insert.ensures.entries
    ∙ with_put by_prefix c.self.inside.by_prefix.entries c.route.inside.prefix c.args.route (ap (λ (s : Static). s.prefix) c.route.view_is)
    c.self.invariant
    ∙ ap (with_one static_before c.args.route) c.self.view_is
