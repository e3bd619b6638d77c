-- What a step answers, and what is left once it is done.
use Rattle.std.proofs.Common.{ℕ, ◌≡◌, ◌≢◌, ◌+◌, ◌≤◌, Bool, true, false, cond, List, [], ◌∷◌, ◌++◌, refl, sym, ap, ◌∙◌, subst, Option, Some, None, Result, Err}
use Rattle.std.specs.Prelude.{IfSome, OnOk, option_map, nat_le}
use Rattle.mn_topo.specs.Network.{Network}
use Rattle.mn_topo.specs.declared.steps.Step.{Step}
use Rattle.mn_topo.specs.declared.steps.Step.TheVariants as step
use Rattle.mn_ledger.specs.declared.refused.Refused.{Refused}
use Rattle.mn_ledger.specs.declared.refused.Refused.TheVariants.{Unchanged, Empty, NoRouteThere, RoutesFull, TargetsFull, LabelsSpent, NetFull}
use Rattle.mn_ledger.specs.Places.{vrf_of}
use Rattle.mn_ledger.specs.Refusal.{first_cause, where_holds, prefix_refusal}
use Rattle.mn_net_laws.specs.Refusal.{site_with, is_site}
use Rattle.mn_bgp_spelling_laws.specs.Spelling.{Labels}
use Rattle.mn_reflect_ledger_laws.specs.Words.{Word, Open, KeepAlive, Announce, Withdraw}
use Rattle.mn_reflect_ledger_laws.specs.World.{world_of}
use Rattle.mn_reflect_ledger_laws.specs.Refusal.{refusal}
use Rattle.mn_reflect_world_laws.specs.Now.{ReflectNow}
use Rattle.mn_reflect_world_laws.specs.Steps.{takes}
use Rattle.mn_reflect_world_laws.specs.Labels.{labels_of}
use Rattle.mn_reflect_world_laws.specs.Goes.{word_heard}
use Rattle.mn_reflect.specs.declared.refusal.ReflectBad.{ReflectBad}
use Rattle.mn_reflect.specs.declared.refusal.ReflectBad.TheVariants as bad
use Rattle.mn_reflect.specs.Course.{IsRun, MayStep, bad_of}
use Rattle.mn_reflect.specs.Causes.{IsOfPlaces, shown, is_so, has_nothing, of_static, has_all_targets, has_given_all, has_too_much, refusal_seen}
use Rattle.mn_reflect.specs.Acting.{MayAct, IsHeardIn, acted}
use Rattle.mn_reflect.proofs.Going.{finished}
use Rattle.mn_reflect.proofs.Refusing.{refuses, places_of}
use Rattle.mn_reflect.proofs.Acts.{can_act, hears_it, goes_further}
use Rattle.mn_reflect_telling.proofs.Results.{on_ok}

-- 1. Counts and memory

pub same_count : (l : Labels) (word : Option Word) (s : Step) (now : ReflectNow) → (acted l word s now).done ≡ now.done
same_count l word (step.BgpUp a b) now = refl
same_count l word (step.BgpDown a b) now = refl
same_count l None (step.HearBgp a b) now = refl
same_count l (Some Open) (step.HearBgp a b) now = refl
same_count l (Some KeepAlive) (step.HearBgp a b) now = refl
same_count l (Some (Announce offer)) (step.HearBgp a b) now = refl
same_count l (Some (Withdraw key)) (step.HearBgp a b) now = refl
same_count l word (step.AddRoute s prefix) now = refl
same_count l word (step.DelRoute s prefix) now = refl
same_count l word (step.Import v on target) now = refl
same_count l word (step.Export v on target) now = refl
same_count l word (step.Attach s) now = refl
same_count l word (step.Detach s) now = refl
same_count l word _ now = refl

same_memory : (l : Labels) (word : Option Word) (s : Step) (now : ReflectNow) → (acted l word s now).failed ≡ now.failed
same_memory l word (step.BgpUp a b) now = refl
same_memory l word (step.BgpDown a b) now = refl
same_memory l None (step.HearBgp a b) now = refl
same_memory l (Some Open) (step.HearBgp a b) now = refl
same_memory l (Some KeepAlive) (step.HearBgp a b) now = refl
same_memory l (Some (Announce offer)) (step.HearBgp a b) now = refl
same_memory l (Some (Withdraw key)) (step.HearBgp a b) now = refl
same_memory l word (step.AddRoute s prefix) now = refl
same_memory l word (step.DelRoute s prefix) now = refl
same_memory l word (step.Import v on target) now = refl
same_memory l word (step.Export v on target) now = refl
same_memory l word (step.Attach s) now = refl
same_memory l word (step.Detach s) now = refl
same_memory l word _ now = refl

pub finishes : (l : Labels) (word : Option Word) (s : Step) (now new : ReflectNow) → now.failed ≡ false → new ≡ acted l word s now →
    (let x : ReflectNow = record new { done = new.done + 1 } in x) ≡ finished (acted l word s now)
finishes l word s now new works is =
    ap (λ (y : ReflectNow). let x : ReflectNow = record y { done = y.done + 1 } in x) is
    ∙ ap (λ f. let x : ReflectNow = record (acted l word s now) { done = (acted l word s now).done + 1; failed = f } in x) (same_memory l word s now ∙ works)

-- 2. Causes

pub some_cause : (P : Refused → Type 0) (seen why : Option Refused) (cause : ReflectBad) → Some cause ≡ option_map bad_of seen → seen ≡ why →
    ((refused : Refused) → cause ≡ bad_of refused → P refused) → IfSome why P
some_cause P seen None cause e is h = tt
some_cause P seen (Some refused) cause e is h = h refused (cause_is cause (bad_of refused) (e ∙ ap (option_map bad_of) is))
  where
    cause_is : (x y : ReflectBad) → Some x ≡ Some y → x ≡ y
    cause_is x y q = cc

pub no_cause : (o : Option Refused) → None ≡ option_map bad_of o → o ≡ None
no_cause None e = refl
no_cause (Some why) e = absurd (let clash : None ≡ Some (bad_of why) → ⊥ = (λ h. cc) in clash e)

pub none_there : (o : Option Refused) (cause : ReflectBad) → Some cause ≡ option_map bad_of o → o ≡ None → ⊥
none_there None cause e none = cc
none_there (Some why) cause e none = cc

pub if_none : (o : Option Refused) (P : Refused → Type 0) → o ≡ None → IfSome o P
if_none None P e = tt
if_none (Some why) P e = absurd (let clash : Some why ≡ None → ⊥ = (λ h. cc) in clash e)

-- none of them is out of memory
abbrev IsCause : Option Refused → Type 0
IsCause None = Unit {0}
IsCause (Some why) = bad_of why ≢ bad.NoMemory

when_cause : (b : Bool) (why : Refused) → bad_of why ≢ bad.NoMemory → IsCause (where_holds b why)
when_cause true why h = h
when_cause false why h = tt

first_of_two : (o : Option Refused) (rest : List (Option Refused)) → IsCause o → IsCause (first_cause rest) → IsCause (first_cause (o ∷ rest))
first_of_two None rest h more = more
first_of_two (Some why) rest h more = h

static_cause : (now : ReflectNow) (s : Step) → IsCause (of_static now s)
static_cause now (step.AddRoute s prefix) = by (site_with now.topology (shown now) (vrf_of now.topology s.0) prefix) now.statics _ refl
  where
    by : (o : Option ℕ) (count : ℕ) (b : Bool) → nat_le 65536 count ≡ b → IsCause (prefix_refusal o count)
    by (Some site) count b e = λ h. cc
    by None count true e = subst (λ b. IsCause (cond b (Some RoutesFull) None)) (sym e) (λ h. cc)
    by None count false e = subst (λ b. IsCause (cond b (Some RoutesFull) None)) (sym e) tt
static_cause now (step.DelRoute s prefix) = by (is_site s.0 (site_with now.topology (shown now) (vrf_of now.topology s.0) prefix))
  where
    by : (b : Bool) → IsCause (cond b None (Some NoRouteThere))
    by true = tt
    by false = λ e. cc
static_cause now _ = tt

pub never_memory : (now : ReflectNow) (s : Step) → Some bad.NoMemory ≡ option_map bad_of (refusal_seen now s) → ⊥
never_memory now s e = by (refusal_seen now s) causes e
  where
    causes : IsCause (refusal_seen now s)
    causes =
        first_of_two (where_holds (is_so now s) Unchanged) _ (when_cause (is_so now s) Unchanged (λ h. cc))
        (first_of_two (where_holds (has_nothing now s) Empty) _ (when_cause (has_nothing now s) Empty (λ h. cc))
        (first_of_two (of_static now s) _ (static_cause now s)
        (first_of_two (where_holds (has_all_targets now s) TargetsFull) _ (when_cause (has_all_targets now s) TargetsFull (λ h. cc))
        (first_of_two (where_holds (has_given_all now s) LabelsSpent) _ (when_cause (has_given_all now s) LabelsSpent (λ h. cc))
        (first_of_two (where_holds (has_too_much now s) NetFull) [] (when_cause (has_too_much now s) NetFull (λ h. cc)) tt)))))

    by : (o : Option Refused) → IsCause o → Some bad.NoMemory ≡ option_map bad_of o → ⊥
    by None h q = cc
    by (Some why) h q = h (same why q)
      where
        same : (x : Refused) → Some bad.NoMemory ≡ Some (bad_of x) → bad_of x ≡ bad.NoMemory
        same x q = cc

pub never_is : {A : Type 0} (now : ReflectNow) (s : Step) (cause : ReflectBad) → Some cause ≡ option_map bad_of (refusal_seen now s) →
    (let r : Result A ReflectBad = Err cause in r) ≡ Err bad.NoMemory → ⊥
never_is {A = A} now s cause e is = never_memory now s (ap (λ (x : ReflectBad). Some x) (sym (bad_is cause bad.NoMemory is)) ∙ e)
  where
    bad_is : (x y : ReflectBad) → (let r : Result A ReflectBad = Err x in r) ≡ Err y → x ≡ y
    bad_is x y h = cc

-- 3. Of a step that may be done

module _ (now : ReflectNow) (s : Step) (may : MayStep now s) where
  pub places : IsOfPlaces now.topology s
  places = subst (λ (n : Network). IsOfPlaces n s) (sym may.is.stands.0.topology_is)
      (places_of may.topology may.reflectors may.is.run.topology_is may.is.run.are s may.takes)

  module _ (free : None ≡ option_map bad_of (refusal_seen now s)) where
    unrefused : refusal may.topology (world_of may.topology may.reflectors may.steps) s ≡ None
    unrefused = sym (refuses may.topology may.reflectors may.steps now s may.is may.takes) ∙ no_cause (refusal_seen now s) free

    pub can : MayAct now s
    can = can_act may.topology may.reflectors may.steps now may.is s may.takes unrefused

  pub few_done : now.done ≤ 4000000
  few_done = subst (λ n. n ≤ 4000000) (sym may.is.stands.1) may.few

-- something is received, or nothing is to be
some_heard : (now : ReflectNow) (s : Step) → MayAct now s → (l : Labels) × (word : Option Word) × IsHeardIn l now s word
some_heard now (step.HearBgp a b) may = (may.can.labels, Some may.can.word, may.can.next)
some_heard now (step.BgpUp a b) may = ((λ site attachment. 0), None, tt)
some_heard now _ may = ((λ site attachment. 0), None, tt)

pub count_stays : (now new : ReflectNow) (s : Step) → MayAct now s → ((l : Labels) (word : Option Word) → IsHeardIn l now s word → new ≡ acted l word s now) →
    new.done ≡ now.done
count_stays now new s may is =
    let heard = some_heard now s may in
    ap (λ (x : ReflectNow). x.done) (is heard.0 heard.1 heard.2) ∙ same_count heard.0 heard.1 s now

module _ (t : Network) (rs : List ℕ) (steps : List Step) (now : ReflectNow) (s : Step) (is : IsRun t rs steps now) (taken : takes t rs s ≡ true)
    (free : None ≡ option_map bad_of (refusal_seen now s)) where
  pub none_holds : refusal t (world_of t rs steps) s ≡ None
  none_holds = sym (refuses t rs steps now s is taken) ∙ no_cause (refusal_seen now s) free

  pub runs_on : {A E : Type 0} (new : ReflectNow) (r : Result A E) →
      ((l : Labels) (word : Option Word) → IsHeardIn l now s word → OnOk r (new ≡ finished (acted l word s now))) → OnOk r (IsRun t rs (steps ++ s ∷ []) new)
  runs_on new r so =
      on_ok r (goes_further t rs steps now is s taken none_holds new)
      (so (labels_of t steps) (word_heard (world_of t rs steps) s) (hears_it t rs steps now is s taken none_holds))
