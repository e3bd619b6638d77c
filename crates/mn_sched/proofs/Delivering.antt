-- What items that arrive one after another come to.
use Rattle.std.proofs.Common.{◌≡◌, ℕ, zero, suc, ◌+◌, ◌-◌, ◌<◌, arith, Bool, true, false, List, [], ◌++◌, Option, Some, None, Ok, Err, refl, sym, ◌∙◌, ap}
use Rattle.std.proofs.Common.{subst}
use Rattle.std.proofs.Common.{append_assoc}
use Rattle.std.proofs.lemmas.List.{append-nil}
use Rattle.mn_topo.specs.Network.{Network}
use Rattle.mn_topo.specs.declared.steps.JournalEntry.{JournalEntry}
use Rattle.mn_course_laws.specs.declared.coming.Arrivals.{Arrivals}
use Rattle.mn_course_laws.specs.declared.coming.Arrivals.TheVariants.{DueBy, News, AllFrames}
use Rattle.mn_course_laws.specs.declared.coming.Coming.{Coming}
use Rattle.mn_course_laws.specs.declared.coming.Ending.TheVariants as ending
use Rattle.mn_course_laws.specs.Coming.{next_arrival}
use Rattle.mn_course_laws.specs.Course.{Past, Course, ends, arrived, one_by_one, is_journal_full, inputs_of, next_now, deliver}
use Rattle.mn_net.specs.Now.{NetNow, StandsFor}
use Rattle.mn_sched.specs.declared.line.Stopped.{Stopped}
use Rattle.mn_sched.specs.declared.line.Stopped.TheVariants.{TooManySteps, Read, Write, NoMemory}
use Rattle.mn_sched.specs.Playing.{past_of, IsFirstPart, Arrives}

pub first_part_refl : (entries : List JournalEntry) → IsFirstPart entries entries
first_part_refl entries = ([], append-nil entries)

pub first_part_trans : (a b c : List JournalEntry) → IsFirstPart a b → IsFirstPart b c → IsFirstPart a c
first_part_trans a b c (r, e) (s, f) = (r ++ s, sym (append_assoc a r s) ∙ ap (λ l. l ++ s) e ∙ f)

-- an item that arrives makes the journal longer
arrived_more : (arrivals : Arrivals) (past : Past) (item : Coming) → IsFirstPart past.entries (arrived arrivals past item).entries
arrived_more News past item = (_, refl)
arrived_more (DueBy end) past item = (_, refl)
arrived_more AllFrames past item = (_, refl)

pub one_more : (arrivals : Arrivals) (on : Past → Course) (past : Past) (full : Bool) (item : Option Coming) →
    ((later : Past) → IsFirstPart later.entries (on later).past.entries) → IsFirstPart past.entries (one_by_one arrivals on past full item).past.entries
one_more arrivals on past full None h = first_part_refl past.entries
one_more arrivals on past true (Some item) h = first_part_refl past.entries
one_more arrivals on past false (Some item) h = first_part_trans _ _ _ (arrived_more arrivals past item) (h (arrived arrivals past item))

pub deliver_more : (topology : Network) (capture : List (List ℕ)) (arrivals : Arrivals) (most : ℕ) (past : Past) →
    IsFirstPart past.entries (deliver topology capture arrivals most past).past.entries
deliver_more topology capture arrivals zero past = first_part_refl past.entries
deliver_more topology capture arrivals (suc more) past =
    one_more arrivals (λ later. deliver topology capture arrivals more later) past (is_journal_full past) (next_now topology capture arrivals past)
    (λ later. deliver_more topology capture arrivals more later)

-- after one item the rest goes on from what has happened then
pub one_then : (arrivals : Arrivals) (on : Past → Course) (past : Past) (full : Bool) (item : Coming) (net : NetNow) →
    Arrives (one_by_one arrivals (ends ending.All) past full (Some item)) net (Ok tt) → one_by_one arrivals on past full (Some item) ≡ on (past_of net)
one_then arrivals on past true item net h = absurd (let e : ending.TooManySteps ≡ ending.All = h.0 in cc)
one_then arrivals on past false item net h = ap on (sym h.1)

-- where one item stops, all stops
pub one_stops : (arrivals : Arrivals) (on : Past → Course) (past : Past) (full : Bool) (item : Coming) (net : NetNow) (why : Stopped) →
    ((later : Past) → IsFirstPart later.entries (on later).past.entries) →
    Arrives (one_by_one arrivals (ends ending.All) past full (Some item)) net (Err why) →
    Arrives (one_by_one arrivals on past full (Some item)) net (Err why)
one_stops arrivals on past true item net TooManySteps more h = h
one_stops arrivals on past true item net Read more h = h
one_stops arrivals on past true item net Write more h = h
one_stops arrivals on past true item net NoMemory more h = h
one_stops arrivals on past false item net TooManySteps more h = absurd (let e : ending.All ≡ ending.TooManySteps = h.0 in cc)
one_stops arrivals on past false item net Read more h = first_part_trans _ _ _ h (more _)
one_stops arrivals on past false item net Write more h = first_part_trans _ _ _ h (more _)
one_stops arrivals on past false item net NoMemory more h = first_part_trans _ _ _ h (more _)

-- one turn of many
pub next_turn : (topology : Network) (capture : List (List ℕ)) (arrivals : Arrivals) (most turn : ℕ) (past : Past) (item : Option Coming) → turn < most →
    next_now topology capture arrivals past ≡ item →
    deliver topology capture arrivals (most - turn) past ≡ one_by_one arrivals (λ later. deliver topology capture arrivals (most - (turn + 1)) later) past
    (is_journal_full past) item
next_turn topology capture arrivals most turn past item lt is =
    ap (λ n. deliver topology capture arrivals n past) (let e : most - turn ≡ suc (most - (turn + 1)) = omega arith in e)
    ∙ ap (λ o. one_by_one arrivals (λ later. deliver topology capture arrivals (most - (turn + 1)) later) past (is_journal_full past) o) is

-- Where room was made nothing else changed: what comes next is what came next before, and net and watch stand together.
pub told_now : (topology : Network) (all : List (List ℕ)) (arrivals : Arrivals) (kept was : NetNow) (item : Option Coming) →
    past_of kept ≡ past_of was → kept.topology ≡ topology →
    next_arrival kept.topology kept.journal (inputs_of all kept.journal) arrivals ≡ item → next_now topology all arrivals (past_of was) ≡ item
told_now topology all arrivals kept was item past same e =
    ap (λ p. next_now topology all arrivals p) (sym past) ∙ ap (λ t. next_arrival t kept.journal (inputs_of all kept.journal) arrivals) (sym same) ∙ e

pub keeps : (kept was : NetNow) (stands : Network → List JournalEntry → List (List ℕ) → Type 0) (all : List (List ℕ)) → past_of kept ≡ past_of was →
    kept.topology ≡ was.topology → ((inputs : List (List ℕ)) → StandsFor was inputs → StandsFor kept inputs) →
    StandsFor was (inputs_of all was.journal) × stands was.topology was.journal (inputs_of all was.journal) →
    StandsFor kept (inputs_of all kept.journal) × stands kept.topology kept.journal (inputs_of all kept.journal)
keeps kept was stands all past same on h = (
  subst (λ (p : Past). StandsFor kept (inputs_of all p.entries)) (sym past) (on _ h.0),
  subst (λ t. stands t kept.journal (inputs_of all kept.journal)) (sym same)
      (subst (λ (p : Past). stands was.topology p.entries (inputs_of all p.entries)) (sym past) h.1),
)

pub stands_on : (kept was : NetNow) (all : List (List ℕ)) → past_of kept ≡ past_of was →
    ((inputs : List (List ℕ)) → StandsFor was inputs → StandsFor kept inputs) →
    StandsFor was (inputs_of all was.journal) → StandsFor kept (inputs_of all kept.journal)
stands_on kept was all past on h = subst (λ (p : Past). StandsFor kept (inputs_of all p.entries)) (sym past) (on _ h)
