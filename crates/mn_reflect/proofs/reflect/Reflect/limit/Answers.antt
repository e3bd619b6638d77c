use Rattle.std.proofs.Common.{◌∙◌, sym}
use Rattle.mn_reflect.proofs.Chain.{is_many, is_all, is_full, is_none}
use Rattle.mn_reflect.proofs.reflect.Reflect.limit.Goals as goal

pub returns-then-has_all_targets : goal.returns-then-has_all_targets
returns-then-has_all_targets c = is_many _ _ _ (sym c.has_all_targets.ensures ∙ c.if-has_all_targets.true)

pub returns-then-has_given_all : goal.returns-then-has_given_all
returns-then-has_given_all c =
    is_all _ _ _ (sym c.has_all_targets.ensures ∙ c.if-has_all_targets.false) (sym c.has_given_all.ensures ∙ c.if-has_given_all.true)

pub returns-then-has_too_much : goal.returns-then-has_too_much
returns-then-has_too_much c =
    is_full _ _ _ (sym c.has_all_targets.ensures ∙ c.if-has_all_targets.false) (sym c.has_given_all.ensures ∙ c.if-has_given_all.false)
    (sym c.has_too_much.ensures ∙ c.if-has_too_much.true)

pub returns : goal.returns
returns c =
    is_none _ _ _ (sym c.has_all_targets.ensures ∙ c.if-has_all_targets.false) (sym c.has_given_all.ensures ∙ c.if-has_given_all.false)
    (sym c.has_too_much.ensures ∙ c.if-has_too_much.false)
