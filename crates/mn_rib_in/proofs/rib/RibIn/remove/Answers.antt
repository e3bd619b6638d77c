use Rattle.std.proofs.Common.{◌∙◌, ap, refl, subst, sym}
use Rattle.std.specs.Option.{is_some}
use Rattle.std.specs.Map.{values_of}
use Rattle.mn_by_key_laws.proofs.ByKey.{without_taken, kept_taken, found, has_found}
use Rattle.mn_rib_in.specs.Heard.{heard_before, place_of, without_heard, has_heard}
use Rattle.mn_rib_in.specs.Kept.{AreByPlace}
use Rattle.mn_rib_in.proofs.ByPlace.{by_place}
use Rattle.mn_rib_in.proofs.rib.RibIn.remove.Goals as goal

pub invariant_of-self : goal.invariant_of-self
invariant_of-self c =
    subst AreByPlace (sym c.remove.ensures.entries)
    (kept_taken by_place c.self.inside.by_place.entries (c.args.rd, c.args.prefix) (place_of c.args.rd c.args.prefix) refl c.self.invariant)

pub returns-clause-removed : goal.returns-clause-removed
returns-clause-removed c =
    ap values_of c.remove.ensures.entries
    ∙ without_taken by_place c.self.inside.by_place.entries (c.args.rd, c.args.prefix) (place_of c.args.rd c.args.prefix) refl c.self.invariant
    ∙ ap (without_heard c.args.rd c.args.prefix) c.self.view_is

pub returns-clause-there : goal.returns-clause-there
returns-clause-there c =
    c.is_some.ensures ∙ ap is_some c.remove.ensures.value
    ∙ ap is_some (found by_place c.self.inside.by_place.entries (c.args.rd, c.args.prefix) (place_of c.args.rd c.args.prefix) refl c.self.invariant)
    ∙ has_found heard_before (place_of c.args.rd c.args.prefix) (values_of c.self.inside.by_place.entries)
    ∙ ap (has_heard c.args.rd c.args.prefix) c.self.view_is
