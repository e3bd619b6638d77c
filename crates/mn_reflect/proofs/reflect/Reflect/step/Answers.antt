use Rattle.std.proofs.Common.{◌≡◌, ◌∙◌, false, ap, refl, sym, Err}
use Rattle.mn_base.proofs.Bools.{no}
use Rattle.mn_reflect_ledger_laws.specs.World.{world_of}
use Rattle.mn_reflect_ledger_laws.specs.Refusal.{refusal}
use Rattle.mn_reflect_world_laws.specs.Now.{ReflectNow}
use Rattle.mn_reflect.specs.declared.refusal.ReflectBad.{ReflectBad}
use Rattle.mn_reflect.specs.declared.refusal.ReflectBad.TheVariants as bad
use Rattle.mn_reflect.specs.Causes.{refusal_seen}
use Rattle.mn_reflect.proofs.Refusing.{refuses}
use Rattle.mn_reflect_telling.proofs.Results.{if_err, of_err}
use Rattle.mn_reflect.proofs.Finishing.{some_cause, none_there, if_none, never_is, places, can, few_done, none_holds, runs_on}
use Rattle.mn_reflect.proofs.reflect.Reflect.step.Goals as goal

pub refusal-requires : goal.refusal-requires
refusal-requires c =
    let works : c.args.self.now.failed ≡ false = ap (λ (x : ReflectNow). x.failed) (sym c.self.view_is) ∙ c.if-self.false in
    places c.args.self.now c.args.step.now (c.requires.may works)

pub act_counted-requires-clause-may : goal.act_counted-requires-clause-may
act_counted-requires-clause-may c =
    let works : c.args.self.now.failed ≡ false = ap (λ (x : ReflectNow). x.failed) (sym c.self.view_is) ∙ c.if-self.false in
    can c.args.self.now c.args.step.now (c.requires.may works) (sym c.in-None.is ∙ c.refusal.ensures)

pub act_counted-requires-clause-few : goal.act_counted-requires-clause-few
act_counted-requires-clause-few c =
    let works : c.args.self.now.failed ≡ false = ap (λ (x : ReflectNow). x.failed) (sym c.self.view_is) ∙ c.if-self.false in
    few_done c.args.self.now c.args.step.now (c.requires.may works)

pub act_counted-requires-clause-works : goal.act_counted-requires-clause-works
act_counted-requires-clause-works c = ap (λ (x : ReflectNow). x.failed) (sym c.self.view_is) ∙ c.if-self.false

pub returns-then-self-clause-refused : goal.returns-then-self-clause-refused
returns-then-self-clause-refused c = λ t rs steps is taken.
    absurd (no (sym is.stands.0.works ∙ ap (λ (x : ReflectNow). x.failed) (sym c.self.view_is) ∙ c.if-self.true))

pub returns-in-Some-clause-refused : goal.returns-in-Some-clause-refused
returns-in-Some-clause-refused c = λ t rs steps is taken.
    some_cause _ (refusal_seen c.args.self.now c.args.step.now) (refusal t (world_of t rs steps) c.args.step.now) c.in-Some.cause
    (sym c.in-Some.is ∙ c.refusal.ensures) (refuses t rs steps c.args.self.now c.args.step.now is taken)
    (λ why same. (ap (λ (cause : ReflectBad). Err cause) same, refl))

pub returns-in-Some-clause-else_memory : goal.returns-in-Some-clause-else_memory
returns-in-Some-clause-else_memory c = λ t rs steps is taken none.
    absurd (none_there (refusal_seen c.args.self.now c.args.step.now) c.in-Some.cause (sym c.in-Some.is ∙ c.refusal.ensures)
    (refuses t rs steps c.args.self.now c.args.step.now is taken ∙ none))

pub returns-in-Some-clause-failed : goal.returns-in-Some-clause-failed
returns-in-Some-clause-failed c = λ is. absurd (never_is c.args.self.now c.args.step.now c.in-Some.cause (sym c.in-Some.is ∙ c.refusal.ensures) is)

pub returns-in-None-clause-refused : goal.returns-in-None-clause-refused
returns-in-None-clause-refused c = λ t rs steps is taken.
    if_none (refusal t (world_of t rs steps) c.args.step.now) _
    (none_holds t rs steps c.args.self.now c.args.step.now is taken (sym c.in-None.is ∙ c.refusal.ensures))

pub returns-in-None-clause-done : goal.returns-in-None-clause-done
returns-in-None-clause-done c = λ t rs steps is taken.
    runs_on t rs steps c.args.self.now c.args.step.now is taken (sym c.in-None.is ∙ c.refusal.ensures) c.act_counted.new.self c.act_counted.result
    c.act_counted.ensures.done

pub returns-in-None-clause-else_memory : goal.returns-in-None-clause-else_memory
returns-in-None-clause-else_memory c = λ t rs steps is taken none. if_err c.act_counted.result (λ bad h. h.0) c.act_counted.ensures.memory

pub returns-in-None-clause-failed : goal.returns-in-None-clause-failed
returns-in-None-clause-failed c = λ is. of_err bad.NoMemory c.act_counted.result _ c.act_counted.ensures.memory is
