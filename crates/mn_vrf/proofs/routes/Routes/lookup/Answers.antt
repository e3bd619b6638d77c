use Rattle.std.proofs.Common.{◌∙◌, ap, sym}
use Rattle.mn_prefix.specs.Table.{longest_match}
use Rattle.mn_vrf.proofs.Finding.{found_some, found_none}
use Rattle.mn_vrf.proofs.routes.Routes.lookup.Goals as goal

pub returns-in-Some : goal.returns-in-Some
returns-in-Some c =
    c.best_of.ensures
    ∙ found_some c.self.inside.table c.self.inside.prefixes.keys c.self.invariant c.longest.ensures.table c.args.address _ _ (sym c.in-Some.ensures.best)
    ∙ ap (λ routes. longest_match c.args.address routes) c.self.view_is

pub returns-in-None : goal.returns-in-None
returns-in-None c =
    found_none c.self.inside.table c.self.inside.prefixes.keys c.self.invariant c.longest.ensures.table c.args.address (sym c.in-None.ensures.best)
    ∙ ap (λ routes. longest_match c.args.address routes) c.self.view_is
