use Rattle.std.proofs.Common.{◌∙◌, ap, refl}
use Rattle.std.specs.Option.{is_some}
use Rattle.std.specs.Map.{values_of}
use Rattle.mn_by_key_laws.proofs.ByKey.{found, has_found}
use Rattle.mn_rib_in.specs.Heard.{heard_before, place_of, has_heard}
use Rattle.mn_rib_in.proofs.ByPlace.{by_place}
use Rattle.mn_rib_in.proofs.rib.RibIn.has.Goals as goal

pub returns : goal.returns
returns c =
    c.contains_key.ensures
    ∙ ap is_some (found by_place c.self.inside.by_place.entries (c.args.rd, c.args.prefix) (place_of c.args.rd c.args.prefix) refl c.self.invariant)
    ∙ has_found heard_before (place_of c.args.rd c.args.prefix) (values_of c.self.inside.by_place.entries)
    ∙ ap (has_heard c.args.rd c.args.prefix) c.self.view_is
