use Rattle.std.proofs.Common.{◌∙◌, ap, refl, subst, sym}
use Rattle.std.specs.Map.{values_of}
use Rattle.mn_by_key_laws.proofs.ByKey.{without_taken, kept_taken}
use Rattle.mn_offers.specs.Heard.{place_of, without_heard}
use Rattle.mn_offers.specs.Kept.{AreByName}
use Rattle.mn_offers.proofs.ByName.{by_name}
use Rattle.mn_offers.proofs.offers.Offers.remove.Goals as goal

pub invariant_of-self : goal.invariant_of-self
invariant_of-self c =
    subst AreByName (sym c.remove.ensures.entries)
    (kept_taken by_name c.self.inside.by_name.entries (c.args.vrf.0, c.args.prefix) (place_of c.args.vrf.0 c.args.prefix) refl c.self.invariant)

pub returns : goal.returns
returns c =
    ap values_of c.remove.ensures.entries
    ∙ without_taken by_name c.self.inside.by_name.entries (c.args.vrf.0, c.args.prefix) (place_of c.args.vrf.0 c.args.prefix) refl c.self.invariant
    ∙ ap (without_heard c.args.vrf.0 c.args.prefix) c.self.view_is
