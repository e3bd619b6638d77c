-- A step, by what it is.
use Rattle.std.proofs.Common.{◌≡◌, sym, subst, Option, Some, None, Result}
use Rattle.std.specs.Prelude.{OnOk}
use Rattle.mn_base.specs.declared.numbers.NodeNo.{NodeNo}
use Rattle.mn_topo.specs.declared.steps.Step.{Step}
use Rattle.mn_topo.specs.declared.steps.Step.TheVariants as step
use Rattle.mn_bgp_spelling_laws.specs.Spelling.{Labels}
use Rattle.mn_reflect_ledger_laws.specs.Words.{Word}
use Rattle.mn_reflect_world_laws.specs.Now.{ReflectNow}
use Rattle.mn_reflect.specs.Doing.{IsNext, word_heard}
use Rattle.mn_reflect.specs.Acting.{MayAct, IsHeardIn, acted}

-- it is this one
pub may_as : (now : ReflectNow) (s one : Step) → s ≡ one → MayAct now s → MayAct now one
may_as now s one is may = subst (MayAct now) is may

pub acts_as : {A E : Type 0} (labels : Labels) (word : Option Word) (now new : ReflectNow) (s one : Step) (r : Result A E) → s ≡ one →
    OnOk r (new ≡ acted labels word one now) → OnOk r (new ≡ acted labels word s now)
acts_as labels word now new s one r is h = subst (λ x. OnOk r (new ≡ acted labels word x now)) (sym is) h

pub hears_as : {A E : Type 0} (labels : Labels) (word : Option Word) (now new : ReflectNow) (s : Step) (a b : NodeNo) (r : Result A E) →
    s ≡ step.HearBgp a b → IsHeardIn labels now s word → ((v : Word) → IsNext labels now a.0 b.0 v → OnOk r (new ≡ word_heard labels a.0 b.0 v now)) →
    OnOk r (new ≡ acted labels word s now)
hears_as labels word now new s a b r is heard h =
    acts_as labels word now new s (step.HearBgp a b) r is (by word (subst (λ x. IsHeardIn labels now x word) is heard))
  where
    by : (o : Option Word) → IsHeardIn labels now (step.HearBgp a b) o → OnOk r (new ≡ acted labels o (step.HearBgp a b) now)
    by None i = absurd i
    by (Some v) i = h v i
