use Rattle.std.proofs.Common.{◌≤◌, ◌+◌, ◌∙◌, ap, sym, subst}
use Rattle.mn_reflect_world_laws.specs.Now.{ReflectNow}
use Rattle.mn_reflect.proofs.Finishing.{count_stays, finishes}
use Rattle.mn_reflect.proofs.reflect.Reflect.act_counted.Goals as goal

pub next_count-self-inside-requires : goal.next_count-self-inside-requires
next_count-self-inside-requires c =
    subst (λ n. n ≤ 4000000)
    (sym (ap (λ (x : ReflectNow). x.done) c.self.view_is ∙ count_stays c.args.self.now c.act.new.self c.args.step.now c.requires.may c.in-Ok.ensures))
    c.requires.few

pub returns-in-Ok-clause-done : goal.returns-in-Ok-clause-done
returns-in-Ok-clause-done c = λ labels word heard.
    ap (λ (y : ReflectNow). let x : ReflectNow = record y { done = c.next_count-self-inside.result } in x) c.self.view_is
    ∙ ap (λ n. let x : ReflectNow = record c.act.new.self { done = n } in x) (c.next_count-self-inside.ensures
    ∙ ap (λ (x : ReflectNow). x.done + 1) c.self.view_is)
    ∙ finishes labels word c.args.step.now c.args.self.now c.act.new.self c.requires.works (c.in-Ok.ensures labels word heard)
