use Rattle.std.proofs.Common.{◌∙◌, ap, subst, sym}
use Rattle.std.specs.Map.{values_of}
use Rattle.mn_base.specs.Ordered.{without_one}
use Rattle.mn_by_key_laws.proofs.ByKey.{without_taken, kept_taken}
use Rattle.mn_vrf.specs.Vrf.{Static, static_before}
use Rattle.mn_vrf.specs.Kept.{AreByPrefix}
use Rattle.mn_vrf.proofs.ByPrefix.{by_prefix}
use Rattle.mn_vrf.proofs.statics.Statics.take.Goals as goal

pub invariant_of-self : goal.invariant_of-self
invariant_of-self c =
    subst AreByPrefix (sym c.remove.ensures.entries)
    (kept_taken by_prefix c.self.inside.by_prefix.entries c.route.inside.prefix c.args.route.now (ap (λ (s : Static). s.prefix) c.route.view_is)
    c.self.invariant)

pub returns : goal.returns
returns c =
    ap values_of c.remove.ensures.entries
    ∙ without_taken by_prefix c.self.inside.by_prefix.entries c.route.inside.prefix c.args.route.now (ap (λ (s : Static). s.prefix) c.route.view_is)
    c.self.invariant
    ∙ ap (without_one static_before c.args.route.now) c.self.view_is
