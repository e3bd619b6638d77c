use Rattle.std.proofs.Common.{◌∙◌, ap, sym}
use Rattle.std.specs.Option.{option_map}
use Rattle.std.proofs.lemmas.Iterator.Consumers.{nth_from_yields_List, YieldsList-from_rest}
use Rattle.mn_vrf.proofs.Finding.{shown_none, shown_some}
use Rattle.mn_vrf.proofs.routes.Routes.held.Goals as goal

-- there are fewer prefixes
pub returns-in_err-prefix : goal.returns-in_err-prefix
returns-in_err-prefix c =
    c.from_residual.ensures
    ∙ shown_none c.self.inside.table c.self.inside.prefixes.keys c.args.self.now c.args.k c.self.invariant c.self.view_is
    (sym (nth_from_yields_List c.nth.result c.nth.new.self c.args.k c.nth.ensures.ran (YieldsList-from_rest c.self.inside.prefixes.keys c.iter.ensures.rest))
    ∙ ap (option_map (λ p. p.now)) c.in_err-prefix.was)

pub returns-in-Some : goal.returns-in-Some
returns-in-Some c =
    c.best_of.ensures
    ∙ shown_some c.self.inside.table c.self.inside.prefixes.keys c.args.self.now c.args.k c.in_ok-prefix.field-0.now _ c.self.invariant c.self.view_is
    (sym (nth_from_yields_List c.nth.result c.nth.new.self c.args.k c.nth.ensures.ran (YieldsList-from_rest c.self.inside.prefixes.keys c.iter.ensures.rest))
    ∙ ap (option_map (λ p. p.now)) c.in_ok-prefix.was) c.in-Some.ensures.value
