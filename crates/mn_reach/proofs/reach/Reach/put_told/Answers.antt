use Rattle.std.proofs.Common.{◌∙◌, ap, [], ◌∷◌, ◌++◌}
use Rattle.std.proofs.lemmas.Result.{on_ok_weaker}
use Rattle.mn_drops.specs.declared.drops.Rule.TheVariants.{NoRoute}
use Rattle.mn_fate_laws.specs.Fate.{Falls}
use Rattle.mn_reach_laws.specs.Fates.{ends_towards}
use Rattle.mn_failure_laws.specs.Failures.{config_under}
use Rattle.mn_reach.specs.Plans.{numbers_of}
use Rattle.mn_reach.specs.Reaching.{failure_of}
use Rattle.mn_reach.proofs.reach.Reach.put_told.Goals as goal

pub returns-in-Some : goal.returns-in-Some
returns-in-Some c = λ t of.
    on_ok_weaker c.fate_by.result
    (λ f. f ∙ ap (ends_towards t (config_under t (failure_of c.args.self.now)) c.args.home.0 c.args.ttl) (c.in-Some.ensures.first t of))
    (c.fate_by.ensures t of)

pub returns-in-None : goal.returns-in-None
returns-in-None c = λ t of.
    on_ok_weaker c.fall.result
    (λ f. f ∙ ap (λ xs. Falls NoRoute c.args.home.0 (numbers_of xs ++ c.args.home.0 ∷ [])) c.requires.empty
    ∙ ap (ends_towards t (config_under t (failure_of c.args.self.now)) c.args.home.0 c.args.ttl) (c.in-None.ensures.first t of)) c.fall.ensures
