use Rattle.std.proofs.Common.{◌∙◌, sym}
use Rattle.mn_reflect.proofs.Chain.{is_first, is_second, is_third, is_later}
use Rattle.mn_reflect.proofs.reflect.Reflect.refusal.Goals as goal

pub returns-then-is_so : goal.returns-then-is_so
returns-then-is_so c = is_first _ _ _ _ (sym c.is_so.ensures ∙ c.if-is_so.true)

pub returns-then-has_nothing : goal.returns-then-has_nothing
returns-then-has_nothing c =
    is_second _ _ _ _ (sym c.is_so.ensures ∙ c.if-is_so.false) (sym c.has_nothing.ensures ∙ c.if-has_nothing.true)

pub returns-in-Some : goal.returns-in-Some
returns-in-Some c =
    is_third _ _ _ _ c.in-Some.cause (sym c.is_so.ensures ∙ c.if-is_so.false) (sym c.has_nothing.ensures ∙ c.if-has_nothing.false)
    (sym c.in-Some.is ∙ c.of_static.ensures)

pub returns-in-None : goal.returns-in-None
returns-in-None c =
    c.limit.ensures
    ∙ is_later _ _ _ _ (sym c.is_so.ensures ∙ c.if-is_so.false) (sym c.has_nothing.ensures ∙ c.if-has_nothing.false)
    (sym c.in-None.is ∙ c.of_static.ensures)
