use Rattle.std.proofs.Common.{◌∙◌, ap}
use Rattle.std.specs.Prelude.{slice_get}
use Rattle.mn_vrf.proofs.After.{none_after, some_after}
use Rattle.mn_vrf.proofs.routes.Routes.after.Goals as goal

-- it was the last
pub returns-in_err-prefix : goal.returns-in_err-prefix
returns-in_err-prefix c = λ k is.
    c.from_residual.ensures
    ∙ none_after c.self.inside.table c.self.inside.prefixes.keys c.self.invariant c.args.self.now c.self.view_is k c.args.last is c.range.result
    (c.range.ensures.between tt) (ap (λ l. slice_get l 0) c.in_err-prefix.ensures.steps.0)

pub returns-in-Some : goal.returns-in-Some
returns-in-Some c = λ k is.
    c.best_of.ensures
    ∙ some_after c.self.inside.table c.self.inside.prefixes.keys c.self.invariant c.args.self.now c.self.view_is k c.args.last is c.range.result
    (c.range.ensures.between tt) c.in_ok-prefix.field-0.now _ (ap (λ l. slice_get l 0) c.in_ok-prefix.ensures.steps) c.in-Some.ensures.value

pub returns-in-None : goal.returns-in-None
returns-in-None c = λ k is. some_after c.self.inside.table c.self.inside.prefixes.keys c.self.invariant c.args.self.now c.self.view_is k c.args.last is
    c.range.result (c.range.ensures.between tt) c.in_ok-prefix.field-0.now _ (ap (λ l. slice_get l 0) c.in_ok-prefix.ensures.steps) c.in-None.ensures.value
