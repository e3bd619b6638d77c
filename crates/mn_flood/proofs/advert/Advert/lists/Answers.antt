use Rattle.std.proofs.Common.{◌∙◌, ap, List}
use Rattle.std.specs.Prelude.{◌==◌}
use Rattle.std.specs.List.{list_any}
use Rattle.mn_base.specs.declared.numbers.LinkNo.{LinkNo}
use Rattle.mn_flood_laws.specs.Flood.{Advert}
use Rattle.mn_flood.proofs.Sends.{listed}
use Rattle.mn_flood.proofs.advert.Advert.lists.Goals as goal

pub returns : goal.returns
returns c =
    c.is_among.ensures ∙ ap (λ (links : List LinkNo). list_any (λ (x : LinkNo). x.0 == c.args.link.0) links) c.as_slice.ensures
    ∙ listed c.args.link.0 c.self.inside.links ∙ ap (λ (a : Advert). list_any (λ other. other == c.args.link.0) a.links) c.self.view_is
