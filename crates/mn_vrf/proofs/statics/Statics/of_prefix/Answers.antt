use Rattle.std.proofs.Common.{◌∙◌, ap, refl}
use Rattle.mn_by_key_laws.proofs.ByKey.{found}
use Rattle.mn_vrf.specs.Vrf.{static_of}
use Rattle.mn_vrf.proofs.ByPrefix.{by_prefix}
use Rattle.mn_vrf.proofs.statics.Statics.of_prefix.Goals as goal

pub returns : goal.returns
returns c =
    c.copied.ensures ∙ c.get.ensures.value
    ∙ found by_prefix c.self.inside.by_prefix.entries c.args.prefix (record { prefix = c.args.prefix; site = 0 }) refl c.self.invariant
    ∙ ap (static_of c.args.prefix) c.self.view_is
