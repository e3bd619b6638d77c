use Rattle.std.proofs.Common.{◌≡◌, ◌∙◌, sym}
use Rattle.mn_net.proofs.Chain.{is_first, is_third, is_later}
use Rattle.mn_net.proofs.first.first_cause.Goals as goal

pub returns-then-is_so : goal.returns-then-is_so
returns-then-is_so c = λ made. is_first _ _ _ _ (sym (c.is_so.ensures c.args.parts.transit.now c.args.parts.tally.now made c.args.steps) ∙ c.if-is_so.true)

pub returns-in-Some : goal.returns-in-Some
returns-in-Some c = λ made.
    is_third _ _ _ _ c.in-Some.cause (sym (c.is_so.ensures c.args.parts.transit.now c.args.parts.tally.now made c.args.steps) ∙ c.if-is_so.false)
    (sym (c.has_nothing.ensures made) ∙ c.if-has_nothing.false)
    (sym (c.of_static.ensures c.args.parts.transport.now c.args.parts.transit.now made c.args.steps) ∙ c.in-Some.is)

pub returns-in-None : goal.returns-in-None
returns-in-None c = λ made.
    c.first_limit.ensures made
    ∙ is_later _ _ _ _ (sym (c.is_so.ensures c.args.parts.transit.now c.args.parts.tally.now made c.args.steps) ∙ c.if-is_so.false)
    (sym (c.has_nothing.ensures made) ∙ c.if-has_nothing.false)
    (sym (c.of_static.ensures c.args.parts.transport.now c.args.parts.transit.now made c.args.steps) ∙ c.in-None.is)
