use Rattle.std.proofs.Common.{◌∙◌, ap, subst, sym, ◌≤◌}
use Rattle.std.specs.Prelude.{length, unwrap_or}
use Rattle.mn_candidates.proofs.Preferring.{place_is, few}
use Rattle.mn_candidates.proofs.routes.place_among.Goals as goal

pub returns-clause-place : goal.returns-clause-place
returns-clause-place c = c.unwrap_or.ensures ∙ ap (λ o. unwrap_or o (length c.args.routes.now)) c.first_worse.ensures ∙ place_is c.args.route c.args.routes.now

pub returns-clause-there : goal.returns-clause-there
returns-clause-there c = subst (λ n. n ≤ length c.args.routes.now) (sym (returns-clause-place c)) (few c.args.route c.args.routes.now)
