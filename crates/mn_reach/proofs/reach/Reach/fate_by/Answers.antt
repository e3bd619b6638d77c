use Rattle.std.proofs.Common.{sym, ◌∙◌, ap, [], ◌∷◌, ◌++◌}
use Rattle.std.proofs.lemmas.Result.{on_ok_weaker}
use Rattle.mn_drops.specs.declared.drops.Rule.TheVariants.{NoLsp}
use Rattle.mn_fate_laws.specs.Fate.{Falls}
use Rattle.mn_reach_laws.specs.Fates.{lsp}
use Rattle.mn_failure_laws.specs.Failures.{config_under}
use Rattle.mn_reach.specs.Plans.{held_in, numbers_of}
use Rattle.mn_reach.specs.Reaching.{failure_of}
use Rattle.mn_reach.proofs.Ending.{not_reached}
use Rattle.mn_reach.proofs.reach.Reach.fate_by.Goals as goal

pub returns-then-branch : goal.returns-then-branch
returns-then-branch c = λ t of. c.in_ok-put_if_reached.ensures.fate t of c.if-branch.true

pub returns : goal.returns
returns c = λ t of.
    on_ok_weaker c.fall.result
    (λ f. f ∙ ap (λ xs. Falls NoLsp c.args.home.0 (numbers_of xs ++ c.args.home.0 ∷ [])) (c.in_ok-put_if_reached.ensures.empty c.if-branch.false)
    ∙ not_reached c.args.home.0 c.args.ttl (held_in c.args.candidate)
    (lsp t (config_under t (failure_of c.args.self.now)) c.args.home.0 c.args.candidate.route.edge.0)
    (sym (c.in_ok-put_if_reached.ensures.reached t of) ∙ c.if-branch.false)) c.fall.ensures
