-- What the code tells is what the step says.
use Rattle.std.proofs.Common.{ℕ, ◌≡◌, Bool, List, [], ◌∷◌, sym, subst, Result, Ok, Err}
use Rattle.std.specs.Prelude.{IfOk}
use Rattle.mn_topo.specs.Network.{Network}
use Rattle.mn_pe.specs.Edge.{Edge}
use Rattle.mn_pe.specs.Held.{Exported}
use Rattle.mn_routing_laws.specs.Routed.{Routed}
use Rattle.mn_routing_laws.specs.Sending.{news_in}
use Rattle.mn_routing_laws.specs.Doing.{Puts, Tells, TellsEither, AreNews, AreSayable, with_edge}

module _ (t : Network) (tick number : ℕ) (old mid new : Routed) (edge home : ℕ) (now : ℕ → Edge) where
  pub told_on : {E : Type 0} (comes : Bool) (exports : ℕ → List Exported) (given : List Exported) (r : Result ℕ E) → mid ≡ with_edge edge (now edge) old →
      edge ≡ home → given ≡ exports edge
      → IfOk r (λ next. Puts t tick number (news_in t mid edge comes given) mid new next) →
      IfOk r (λ next. Tells t tick number home (now home) comes (exports home) old new next)
  told_on comes exports given (Err e) mid_is at same h = tt
  told_on comes exports given (Ok next) mid_is at same h =
      subst (λ e. Puts t tick number (news_in t (with_edge e (now e) old) e comes (exports e)) (with_edge e (now e) old) new next) at
      (subst (λ xs. Puts t tick number (news_in t (with_edge edge (now edge) old) edge comes xs) (with_edge edge (now edge) old) new next) same
      (subst (λ m. Puts t tick number (news_in t m edge comes given) m new next) mid_is h))

  either : (comes : Bool) (come gone given : List Exported) (next : ℕ) → AreNews comes given come gone
      → Puts t tick number (news_in t old home comes given) (with_edge home (now home) old) new next →
      TellsEither t tick number home (now home) come gone old new next
  either comes [] gone given next news h = subst (λ b. Puts t tick number (news_in t old home b gone) (with_edge home (now home) old) new next) news.0
      (subst (λ xs. Puts t tick number (news_in t old home comes xs) (with_edge home (now home) old) new next) news.1 h)
  either comes (x ∷ xs) gone given next news h = subst (λ b. Puts t tick number (news_in t old home b (x ∷ xs)) (with_edge home (now home) old) new next) news.0
      (subst (λ ys. Puts t tick number (news_in t old home comes ys) (with_edge home (now home) old) new next) news.1 h)

  pub told_either : {E : Type 0} (comes : Bool) (come gone : ℕ → List Exported) (given : List Exported) (r : Result ℕ E) →
      mid ≡ with_edge edge (now edge) old → edge ≡ home → AreNews comes given (come edge) (gone edge)
      → IfOk r (λ next. Puts t tick number (news_in t mid edge comes given) mid new next) →
      IfOk r (λ next. TellsEither t tick number home (now home) (come home) (gone home) old new next)
  told_either comes come gone given (Err e) mid_is at news h = tt
  told_either comes come gone given (Ok next) mid_is at news h =
      either comes (come home) (gone home) given next (subst (λ e. AreNews comes given (come e) (gone e)) at news)
      (subst (λ e. Puts t tick number (news_in t old e comes given) (with_edge e (now e) old) new next) at
      (subst (λ m. Puts t tick number (news_in t m edge comes given) m new next) mid_is h))

-- what is told of either can be sent
pub either_sayable : (comes : Bool) (come gone given : List Exported) → AreNews comes given come gone → AreSayable come → AreSayable gone → AreSayable given
either_sayable comes [] gone given news a b = subst AreSayable (sym news.1) b
either_sayable comes (x ∷ xs) gone given news a b = subst AreSayable (sym news.1) a
