use Rattle.std.proofs.Common.{◌∙◌, ap}
use Rattle.mn_by_key_laws.proofs.ByKey.{with_put, kept_put}
use Rattle.mn_offers.specs.Heard.{with_heard}
use Rattle.mn_offers.specs.Kept.{name_of}
use Rattle.mn_offers.proofs.ByName.{by_name}
use Rattle.mn_offers.proofs.offers.Offers.set.Goals as goal

pub invariant_of-self-2 : goal.invariant_of-self-2
invariant_of-self-2 c =
    rw (c.in_ok-insert.ensures.entries)
    (kept_put by_name c.self.inside.by_name.entries (c.route.inside.vrf.0, c.route.inside.prefix) c.args.route
    (ap name_of c.route.view_is) c.self.invariant)

pub returns-clause-ok : goal.returns-clause-ok
returns-clause-ok c =
    rw (c.in_ok-insert.ensures.entries)
    (with_put by_name c.self.inside.by_name.entries (c.route.inside.vrf.0, c.route.inside.prefix) c.args.route
    (ap name_of c.route.view_is) c.self.invariant
    ∙ ap (with_heard c.args.route) c.self.view_is)
