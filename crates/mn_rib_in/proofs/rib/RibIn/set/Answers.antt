use Rattle.std.proofs.Common.{◌∙◌, ap, refl}
use Rattle.mn_by_key_laws.proofs.ByKey.{with_put, kept_put}
use Rattle.mn_rib_in.specs.Heard.{Heard, with_heard}
use Rattle.mn_rib_in.proofs.ByPlace.{by_place}
use Rattle.mn_rib_in.proofs.rib.RibIn.set.Goals as goal

pub invariant_of-self-2 : goal.invariant_of-self-2
invariant_of-self-2 c =
    let new : Heard = record { rd = c.args.rd; prefix = c.args.prefix; label = c.args.label; targets = c.args.targets.now } in
    rw (c.in_ok-insert.ensures.entries, c.in_ok-targets.ensures.items)
    (kept_put by_place c.self.inside.by_place.entries (c.args.rd, c.args.prefix) new refl c.self.invariant)

pub returns-clause-ok : goal.returns-clause-ok
returns-clause-ok c =
    let new : Heard = record { rd = c.args.rd; prefix = c.args.prefix; label = c.args.label; targets = c.args.targets.now } in
    rw (c.in_ok-insert.ensures.entries, c.in_ok-targets.ensures.items)
    (with_put by_place c.self.inside.by_place.entries (c.args.rd, c.args.prefix) new refl c.self.invariant
    ∙ ap (with_heard new) c.self.view_is)
