use Rattle.std.proofs.Common.{◌∙◌, ap, refl}
use Rattle.mn_by_key_laws.proofs.ByKey.{found}
use Rattle.mn_offers.specs.Heard.{place_of, heard_at}
use Rattle.mn_offers.proofs.ByName.{by_name}
use Rattle.mn_offers.proofs.offers.Offers.get.Goals as goal

pub returns : goal.returns
returns c =
    c.get.ensures.value
    ∙ found by_name c.self.inside.by_name.entries (c.args.vrf.0, c.args.prefix) (place_of c.args.vrf.0 c.args.prefix) refl c.self.invariant
    ∙ ap (heard_at c.args.vrf.0 c.args.prefix) c.self.view_is
