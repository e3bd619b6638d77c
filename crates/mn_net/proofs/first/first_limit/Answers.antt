use Rattle.std.proofs.Common.{◌≡◌, ◌∙◌, sym}
use Rattle.mn_base.proofs.Bools.{at_most_is, not_at_most}
use Rattle.mn_net.proofs.Chain.{is_many, is_all, is_full, is_late, is_none}
use Rattle.mn_net.proofs.first.first_limit.Goals as goal

pub returns-then-has_all_targets : goal.returns-then-has_all_targets
returns-then-has_all_targets c = λ made. is_many _ _ _ _ (sym c.has_all_targets.ensures ∙ c.if-has_all_targets.true)

pub returns-then-has_given_all : goal.returns-then-has_given_all
returns-then-has_given_all c =
    λ made. is_all _ _ _ _ (sym c.has_all_targets.ensures ∙ c.if-has_all_targets.false) (sym c.has_given_all.ensures ∙ c.if-has_given_all.true)

pub returns-then-has_too_much : goal.returns-then-has_too_much
returns-then-has_too_much c = λ made.
    is_full _ _ _ _ (sym c.has_all_targets.ensures ∙ c.if-has_all_targets.false) (sym c.has_given_all.ensures ∙ c.if-has_given_all.false)
    (sym (c.has_too_much.ensures made) ∙ c.if-has_too_much.true)

pub returns-then-steps-ge-STEPS : goal.returns-then-steps-ge-STEPS
returns-then-steps-ge-STEPS c = λ made.
    is_late _ _ _ _ (sym c.has_all_targets.ensures ∙ c.if-has_all_targets.false) (sym c.has_given_all.ensures ∙ c.if-has_given_all.false)
    (sym (c.has_too_much.ensures made) ∙ c.if-has_too_much.false) (at_most_is 4000000 c.args.steps c.if-steps-ge-STEPS.true)

pub returns : goal.returns
returns c = λ made.
    is_none _ _ _ _ (sym c.has_all_targets.ensures ∙ c.if-has_all_targets.false) (sym c.has_given_all.ensures ∙ c.if-has_given_all.false)
    (sym (c.has_too_much.ensures made) ∙ c.if-has_too_much.false) (not_at_most 4000000 c.args.steps c.if-steps-ge-STEPS.false)
