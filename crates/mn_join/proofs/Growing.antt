-- No step of either network is forgotten: what happened before a line, or a part of it, is a first part of what has happened after it.
use Rattle.std.proofs.Common.{ℕ, zero, suc, Bool, true, false, List, [], length, slice_index_or, Option, Some, None, refl}
use Rattle.mn_topo.specs.declared.steps.Step.{Step}
use Rattle.mn_topo.specs.declared.steps.Step.TheVariants.{Inject}
use Rattle.mn_topo.specs.declared.steps.Damage as damage
use Rattle.mn_topo.specs.declared.steps.Damaged.{Damaged}
use Rattle.mn_topo.specs.declared.steps.Damaged.TheVariants.{Undamaged}
use Rattle.mn_entry.specs.Damages.{ending as end_of, mark_of}
use Rattle.mn_ledger.specs.declared.refused.Refused.{Refused}
use Rattle.mn_ledger.specs.declared.refused.Refused.TheVariants as cause
use Rattle.mn_course_laws.specs.declared.coming.Coming.{Coming}
use Rattle.mn_course_laws.specs.declared.coming.Arrivals.{Arrivals}
use Rattle.mn_course_laws.specs.declared.coming.Arrivals.TheVariants.{DueBy, News, AllFrames}
use Rattle.mn_course_laws.specs.declared.coming.Ending.{Ending}
use Rattle.mn_course_laws.specs.declared.coming.Ending.TheVariants as ending
use Rattle.mn_course_laws.specs.Coming.{next_arrival, delivery}
use Rattle.mn_course_laws.specs.Course.{as_due, is_journal_full}
use Rattle.mn_sched.specs.Playing.{IsFirstPart}
use Rattle.mn_sched.proofs.Delivering.{first_part_refl, first_part_trans}
use Rattle.mn_join_laws.specs.declared.leg.Which.{Which}
use Rattle.mn_join_laws.specs.declared.leg.Which.TheVariants.{First, Second}
use Rattle.mn_join_laws.specs.Pairing.{opposite, Pairing, network, partner, Both, side, with_side, packets_in, travel, with_travel, with_marked}
use Rattle.mn_join_laws.specs.Pairing.{with_plain_step, with_damage, with_injection}
use Rattle.mn_join_laws.specs.Pairing.{with_refusal, Landing, landed}
use Rattle.mn_join_laws.specs.Course.{PairCourse, refusal_on, taken_in, enters, lands, crossed, handed_on, tried, stepped, unless_stopped, arrived, one_by_one}
use Rattle.mn_join_laws.specs.Course.{deliver}

abbrev pub ComeBefore : Both → Both → Type 0
ComeBefore a b = (which : Which) → IsFirstPart (side a which).past.entries (side b which).past.entries

pub same_steps : (a : Both) → ComeBefore a a
same_steps a which = first_part_refl (side a which).past.entries

pub then_steps : (a b c : Both) → ComeBefore a b → ComeBefore b c → ComeBefore a c
then_steps a b c f g which = first_part_trans (side a which).past.entries (side b which).past.entries (side c which).past.entries (f which) (g which)

-- 1. Single steps

marked_before : (a : Both) (w : Which) (step : Step) (mark : Damaged) → ComeBefore a (with_marked a w step mark)
marked_before a First step mark First = (_, refl)
marked_before a First step mark Second = first_part_refl a.second.past.entries
marked_before a Second step mark First = first_part_refl a.first.past.entries
marked_before a Second step mark Second = (_, refl)

pub plain_before : (a : Both) (w : Which) (step : Step) → ComeBefore a (with_plain_step a w step)
plain_before a w step = marked_before a w step Undamaged

pub entered_before : (a : Both) (w : Which) (s number : ℕ) (bytes : List ℕ) (packet : ℕ) → ComeBefore a (with_injection a w s number bytes packet)
entered_before a First s number bytes packet First = (_, refl)
entered_before a First s number bytes packet Second = first_part_refl a.second.past.entries
entered_before a Second s number bytes packet First = first_part_refl a.first.past.entries
entered_before a Second s number bytes packet Second = (_, refl)

sent_before : (a : Both) (w : Which) (s number : ℕ) (bytes : List ℕ) (packet : ℕ)
    → ComeBefore a (with_injection (with_travel a number) w s number bytes packet)
sent_before a First s number bytes packet First = (_, refl)
sent_before a First s number bytes packet Second = first_part_refl a.second.past.entries
sent_before a Second s number bytes packet First = first_part_refl a.first.past.entries
sent_before a Second s number bytes packet Second = (_, refl)

refused_before : (a : Both) (packet : ℕ) (why : Refused) → ComeBefore a (with_refusal a packet why)
refused_before a packet why First = first_part_refl a.first.past.entries
refused_before a packet why Second = first_part_refl a.second.past.entries

due_before : (a : Both) (w : Which) (arrivals : Arrivals) (due : ℕ) →
    ComeBefore a (with_side a w (record (side a w) { past = as_due arrivals due (side a w).past }))
due_before a First News due First = first_part_refl a.first.past.entries
due_before a First (DueBy end) due First = first_part_refl a.first.past.entries
due_before a First AllFrames due First = first_part_refl a.first.past.entries
due_before a First arrivals due Second = first_part_refl a.second.past.entries
due_before a Second arrivals due First = first_part_refl a.first.past.entries
due_before a Second News due Second = first_part_refl a.second.past.entries
due_before a Second (DueBy end) due Second = first_part_refl a.second.past.entries
due_before a Second AllFrames due Second = first_part_refl a.second.past.entries

pub arrived_before : (a : Both) (w : Which) (arrivals : Arrivals) (item : Coming) → ComeBefore a (arrived arrivals a w item)
arrived_before a w arrivals item =
    then_steps a (with_side a w (record (side a w) { past = as_due arrivals item.due (side a w).past })) (arrived arrivals a w item)
    (due_before a w arrivals item.due) (plain_before (with_side a w (record (side a w) { past = as_due arrivals item.due (side a w).past })) w (delivery item))

-- 2. What goes over joints

module _ (pairing : Pairing) where
  abbrev GoesOn : (Both → PairCourse) → Type 0
  GoesOn on = (later : Both) → ComeBefore later (on later).both

  taken_before : (on : Both → PairCourse) → GoesOn on → (a b : Both) (packet : ℕ) (why : Option Refused) → ComeBefore a b →
      ComeBefore a (taken_in a packet why on b).both
  taken_before on goes a b packet None h = then_steps a b (on b).both h (goes b)
  taken_before on goes a b packet (Some cause.TooManySteps) h = same_steps a
  taken_before on goes a b packet (Some why) h = refused_before a packet why

  enters_before : (on : Both → PairCourse) → GoesOn on → (a : Both) (w : Which) (landing : Landing) (o : Option ℕ) →
      ComeBefore a (enters pairing a w landing on o).both
  enters_before on goes a w landing None = same_steps a
  enters_before on goes a w landing (Some s) =
      let packet : ℕ = slice_index_or (side a w).owners landing.packet 0 in
      let number : ℕ = (travel a packet).number in
      taken_before on goes a (with_injection a (opposite w) s number landing.bytes packet) packet
      (refusal_on pairing a (opposite w) (Inject (record { 0 = s }) number) landing.bytes) (entered_before a (opposite w) s number landing.bytes packet)

  lands_before : (on : Both → PairCourse) → GoesOn on → (a : Both) (w : Which) (o : Option Landing) → ComeBefore a (lands pairing a w on o).both
  lands_before on goes a w None = same_steps a
  lands_before on goes a w (Some landing) = enters_before on goes a w landing (partner pairing w landing.site)

  pub crossed_before : (n : ℕ) (w : Which) (a : Both) → ComeBefore a (crossed n pairing w a).both
  crossed_before zero w a = same_steps a
  crossed_before (suc n) w a = lands_before (λ later. crossed n pairing (opposite w) later) (crossed_before n (opposite w)) a w
      (landed (packets_in pairing a w))

  pub handed_before : (w : Which) (a : Both) → ComeBefore a (handed_on pairing w a).both
  unfolding handed_on
  handed_before w a = crossed_before 256 w a

  -- 3. A line

  tried_before : (w : Which) (a done : Both) (why : Option Refused) → ComeBefore a done → ComeBefore a (tried pairing w a done why).both
  tried_before w a done None h = then_steps a done (handed_on pairing w done).both h (handed_before w done)
  tried_before w a done (Some cause.TooManySteps) h = same_steps a
  tried_before w a done (Some why) h = same_steps a

  pub stepped_before : (w : Which) (a : Both) (step : Step) (bytes : List ℕ) → ComeBefore a (stepped pairing w a step bytes).both
  stepped_before w a (Inject s number) bytes =
      tried_before w a (with_injection (with_travel a number) w s.0 number bytes (length a.travels)) (refusal_on pairing a w (Inject s number) bytes)
      (sent_before a w s.0 number bytes (length a.travels))
  stepped_before w a step bytes = tried_before w a (with_plain_step a w step) (refusal_on pairing a w step []) (plain_before a w step)

  pub damaged_before : (w : Which) (a : Both) (d : damage.Damage) (why : Option Refused) → ComeBefore a (tried pairing w a (with_damage a w d) why).both
  damaged_before w a d why = tried_before w a (with_damage a w d) why (marked_before a w (end_of d) (mark_of d))

  unless_before : (on : Both → PairCourse) → GoesOn on → (a : Both) (how : Ending) → ComeBefore a (unless_stopped on a how).both
  unless_before on goes a ending.All = goes a
  unless_before on goes a how = same_steps a

  one_before : (w : Which) (arrivals : Arrivals) (on : Both → PairCourse) → GoesOn on → (a : Both) (full : Bool) (o : Option Coming)
      → ComeBefore a (one_by_one pairing w arrivals on a full o).both
  one_before w arrivals on goes a full None = same_steps a
  one_before w arrivals on goes a true (Some item) = same_steps a
  one_before w arrivals on goes a false (Some item) =
      let now : Both = arrived arrivals a w item in
      let course : PairCourse = handed_on pairing w now in
      then_steps a now (unless_stopped on course.both course.ending).both (arrived_before a w arrivals item)
      (then_steps now course.both (unless_stopped on course.both course.ending).both (handed_before w now) (unless_before on goes course.both course.ending))

  pub deliver_before : (n : ℕ) (w : Which) (arrivals : Arrivals) (a : Both) → ComeBefore a (deliver pairing w arrivals n a).both
  deliver_before zero w arrivals a = same_steps a
  deliver_before (suc n) w arrivals a =
      one_before w arrivals (λ later. deliver pairing w arrivals n later) (deliver_before n w arrivals) a (is_journal_full (side a w).past)
      (next_arrival (network pairing w) (side a w).past.entries (side a w).inputs arrivals)
