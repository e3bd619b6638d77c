use Rattle.std.proofs.Common.{sym, ◌∙◌, subst}
use Rattle.std.proofs.lemmas.Bool.{false≢true}
use Rattle.std.proofs.lemmas.Result.{IfOk-weaker}
use Rattle.mn_bindings.specs.News.{AreAllNews}
use Rattle.mn_bindings.proofs.Staying.{below, every_is_news, named_are_news}
use Rattle.mn_bindings.proofs.bindings.Bound.may_change.Goals as goal

pub named-requires : goal.named-requires
named-requires c = below c.args.self.now c.args.events.now c.requires

pub returns-then-are_of_fecs-clause-all : goal.returns-then-are_of_fecs-clause-all
returns-then-are_of_fecs-clause-all c =
    let b = c.args.self.now in
    let es = c.args.events.now in
    IfOk-weaker c.named.result _ _
    (λ all e. subst (AreAllNews b es) (sym e) (named_are_news b es c.requires (c.are_of_fecs.ensures.some c.if-are_of_fecs.true))) c.named.ensures

pub returns-else-are_of_fecs-clause-all : goal.returns-else-are_of_fecs-clause-all
returns-else-are_of_fecs-clause-all c =
    let b = c.args.self.now in
    let es = c.args.events.now in
    IfOk-weaker c.every.result _ _ (λ all e. subst (AreAllNews b es) (sym e) (every_is_news b es)) c.every.ensures

pub returns-else-are_of_fecs-clause-alone : goal.returns-else-are_of_fecs-clause-alone
returns-else-are_of_fecs-clause-alone c = λ order. absurd (false≢true (sym c.if-are_of_fecs.false ∙ c.are_of_fecs.ensures.all order))
