-- When the clock may go on to a tick: where no frame in flight is due before it.
use Rattle.std.proofs.Common.{◌≡◌, ◌≤◌, ◌<◌, ◌+◌, ℕ, false, max, arith, refl, subst, Option, Some, None, IfSome}
use Rattle.std.specs.List.{All as Each}
use Rattle.std.proofs.lemmas.List.Elements.{All-weaker}
use Rattle.mn_course_laws.specs.declared.coming.Arrivals.{Arrivals}
use Rattle.mn_course_laws.specs.declared.coming.Arrivals.TheVariants.{DueBy, News, AllFrames}
use Rattle.mn_course_laws.specs.declared.coming.Coming.{Coming}
use Rattle.mn_course_laws.specs.Coming.{earlier}
use Rattle.mn_course_laws.specs.Next.{first_due}
use Rattle.mn_course_laws.proofs.Going.{Has, NoLater, earliest, no_later_first, no_later_last}
use Rattle.mn_course_laws.proofs.Nexts.{neither_comes}
use Rattle.mn_net.specs.Now.{NetNow}
use Rattle.mn_sched.specs.Playing.{MayGoTo, GoesTo}
use Rattle.mn_sched.proofs.Telling.{earlier_has}

may_go_sooner : (net : NetNow) (sooner later : ℕ) → sooner ≤ later → MayGoTo net later → MayGoTo net sooner
may_go_sooner net sooner later h may = λ works.
    All-weaker (λ frame. later ≤ frame.due) (λ frame. sooner ≤ frame.due) (λ frame g. omega (arith, h, g)) net.moving.flying (may works)

-- what comes first of all kinds, by a tick
pub due_first : (net : NetNow) (end : ℕ) (n m f : Option Coming) → IfSome n (λ item. item.due ≤ end) → IfSome m (λ item. item.due ≤ end) →
    IfSome f (λ item. item.due ≤ end) → MayGoTo net (first_due end f) → IfSome (earlier n (earlier m f)) (λ item. MayGoTo net item.due)
due_first net end n m f a b c may =
    by (earlier n (earlier m f)) (earlier_has (λ item. item.due ≤ end) n (earlier m f) a (earlier_has (λ item. item.due ≤ end) m f b c))
    (earliest n (earlier m f))
  where
    by : (o : Option Coming) → IfSome o (λ item. item.due ≤ end) → Has (λ r. NoLater r.due (earlier m f)) o → IfSome o (λ item. MayGoTo net item.due)
    by None h g = tt
    by (Some item) h g = may_go_sooner net item.due (first_due end f) (no_later_first item.due end f h (no_later_last m f item.due g)) may

-- where nothing comes by a tick, no frame is due by it
pub all_gone : (net : NetNow) (end : ℕ) (n m f : Option Coming) → MayGoTo net (first_due end f) → earlier n (earlier m f) ≡ None → MayGoTo net end
all_gone net end n m f may none =
    let others = (neither_comes n (earlier m f) none).1 in
    let last : f ≡ None = (neither_comes m f others).1 in
    may_go_sooner net end (end + 1) (omega arith) (subst (λ o. MayGoTo net (first_due end o)) last may)

-- the first frame of all
pub first_frame : (net : NetNow) (limit : ℕ) (o : Option Coming) → MayGoTo net (first_due limit o) → IfSome o (λ item. MayGoTo net item.due)
first_frame net limit None may = tt
first_frame net limit (Some item) may = may

pub goes_on_to : (net : NetNow) (due tick : ℕ) → tick ≡ max net.tick due → MayGoTo net due → net.failed ≡ false → net.tick < tick →
    Each (λ frame. tick ≤ frame.due) net.moving.flying
goes_on_to net due tick is may works later =
    let same : due ≡ tick = omega (arith, is, later) in subst (λ n. Each (λ frame. n ≤ frame.due) net.moving.flying) same (may works)

pub sets_clock : (arrivals : Arrivals) (net : NetNow) (due tick : ℕ) → (arrivals ≡ News → ⊥) → tick ≡ max net.tick due → GoesTo arrivals net due →
    net.failed ≡ false → net.tick < tick → Each (λ frame. tick ≤ frame.due) net.moving.flying
sets_clock News net due tick other is may works later = absurd (other refl)
sets_clock (DueBy end) net due tick other is may works later = goes_on_to net due tick is may works later
sets_clock AllFrames net due tick other is may works later = goes_on_to net due tick is may works later
