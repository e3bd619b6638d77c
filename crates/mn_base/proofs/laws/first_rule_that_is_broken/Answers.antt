use Rattle.mn_base.proofs.Rules.{broken_first, first_is, rules_same}
use Rattle.mn_base.proofs.laws.first_rule_that_is_broken.Goals as goal

pub returns-clause-some : goal.returns-clause-some
returns-clause-some g c = λ rows rule. (λ h. broken_first rows rule h, λ h. first_is rows rule h)

pub returns-clause-alike : goal.returns-clause-alike
returns-clause-alike g c = λ rows. rules_same rows
