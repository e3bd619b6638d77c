-- The course of one line: a packet that a step delivers at a joint enters the other network at once.
use Rattle.std.specs.Prelude.{ℕ, zero, suc, ◌+◌, Bool, true, false, List, [], ◌∷◌, ◌++◌, length, slice_index_or, Option, Some, None}
use Rattle.mn_topo.specs.declared.steps.Step.{Step}
use Rattle.mn_topo.specs.declared.steps.Step.TheVariants.{Inject}
use Rattle.mn_script.specs.declared.command.Command.{Command}
use Rattle.mn_script.specs.declared.command.Command.TheVariants.{Do, Damage, Run, Drain, Flush, Show}
use Rattle.mn_ledger.specs.declared.refused.Refused.{Refused}
use Rattle.mn_ledger.specs.declared.refused.Refused.TheVariants as cause
use Rattle.mn_ledger.specs.Refusal.{refusal}
use Rattle.mn_damage.specs.Refusals.{damage_refusal}
use Rattle.mn_course_laws.specs.declared.coming.Coming.{Coming}
use Rattle.mn_course_laws.specs.declared.coming.Arrivals.{Arrivals}
use Rattle.mn_course_laws.specs.declared.coming.Arrivals.TheVariants.{DueBy, News, AllFrames}
use Rattle.mn_course_laws.specs.declared.coming.Ending.{Ending}
use Rattle.mn_course_laws.specs.declared.coming.Ending.TheVariants as ending
use Rattle.mn_course_laws.specs.Coming.{next_arrival, delivery}
use Rattle.mn_course_laws.specs.Course.{on_to, as_due, is_journal_full, all, most_of}
use Rattle.mn_join_laws.specs.declared.leg.Which.{Which}
use Rattle.mn_join_laws.specs.Pairing.{opposite, Pairing, network, partner, Both, side, with_side, packets_in, travel, with_plain_step, with_damage}
use Rattle.mn_join_laws.specs.Pairing.{with_injection}
use Rattle.mn_join_laws.specs.Pairing.{with_travel, with_refusal, Landing, landed}

-- what a network delivered at a site that isn't joined, at the tick of its step
pub record Exit : Type 0 where
  pub which : Which
  pub site : ℕ
  pub tick : ℕ
  pub bytes : List ℕ

-- what has happened after a line, or a part of it, how that ended, and what came out in it, in the order of the steps
pub record PairCourse : Type 0 where
  pub both : Both
  pub ending : Ending
  pub exits : List Exit

abbrev pub ends : Ending → Both → PairCourse
ends how both = record { both = both; ending = how; exits = [] }

-- what came out before comes first
abbrev pub after_exits : List Exit → PairCourse → PairCourse
after_exits exits course = record course { exits = exits ++ course.exits }

-- a packet comes out of the network that has just done a step
abbrev pub comes_out : Both → Which → Landing → PairCourse
comes_out both which landing = record (ends ending.All both) {
  exits = record { which = which; site = landing.site; tick = (side both which).past.clock; bytes = landing.bytes } ∷ [];
}

abbrev pub refusal_on : Pairing → Both → Which → Step → List ℕ → Option Refused
refusal_on pairing both which step bytes = refusal (network pairing which) (side both which).past.entries (side both which).inputs step bytes

-- 1. Over the joints

-- the other network takes the packet in, or refuses it: that is the packet's end, unless its journal is full
abbrev pub taken_in : Both → ℕ → Option Refused → (Both → PairCourse) → Both → PairCourse
taken_in both packet None on entered = on entered
taken_in both packet (Some cause.TooManySteps) on entered = ends ending.TooManySteps both
taken_in both packet (Some why) on entered = ends ending.All (with_refusal both packet why)

-- at a joint's other site, or at a site that isn't joined
abbrev pub enters : Pairing → Both → Which → Landing → (Both → PairCourse) → Option ℕ → PairCourse
enters pairing both which landing on None = comes_out both which landing
enters pairing both which landing on (Some s) =
    let other : Which = opposite which in
    let packet : ℕ = slice_index_or (side both which).owners landing.packet 0 in
    let number : ℕ = (travel both packet).number in
    taken_in both packet (refusal_on pairing both other (Inject (record { 0 = s }) number) landing.bytes) on
    (with_injection both other s number landing.bytes packet)

abbrev pub lands : Pairing → Both → Which → (Both → PairCourse) → Option Landing → PairCourse
lands pairing both which on None = ends ending.All both
lands pairing both which on (Some landing) = enters pairing both which landing on (partner pairing which landing.site)

-- what a network has just delivered at a joint goes on at once, and so on: each entry lowers the TTL, so 256 are more than there are
abbrev pub crossed : ℕ → Pairing → Which → Both → PairCourse
crossed zero pairing which both = ends ending.All both
crossed (suc more) pairing which both = lands pairing both which (λ later. crossed more pairing (opposite which) later) (landed (packets_in pairing both which))

unfoldable pub handed_on : Pairing → Which → Both → PairCourse
handed_on pairing which both = crossed 256 pairing which both

-- 2. A step

abbrev pub tried : Pairing → Which → Both → Both → Option Refused → PairCourse
tried pairing which both done None = handed_on pairing which done
tried pairing which both done (Some cause.TooManySteps) = ends ending.TooManySteps both
tried pairing which both done (Some why) = ends (ending.Refused why) both

abbrev pub stepped : Pairing → Which → Both → Step → List ℕ → PairCourse
stepped pairing which both (Inject s number) bytes =
    tried pairing which both (with_injection (with_travel both number) which s.0 number bytes (length both.travels))
    (refusal_on pairing both which (Inject s number) bytes)
stepped pairing which both step bytes = tried pairing which both (with_plain_step both which step) (refusal_on pairing both which step [])

-- 3. What arrives in one network, one after another

-- then `on`, unless a full journal stopped the course
abbrev pub unless_stopped : (Both → PairCourse) → Both → Ending → PairCourse
unless_stopped on both ending.All = on both
unless_stopped on both how = ends how both

abbrev pub arrived : Arrivals → Both → Which → Coming → Both
arrived arrivals both which item =
    with_plain_step (with_side both which (record (side both which) { past = as_due arrivals item.due (side both which).past })) which (delivery item)

abbrev pub one_by_one : Pairing → Which → Arrivals → (Both → PairCourse) → Both → Bool → Option Coming → PairCourse
one_by_one pairing which arrivals on both full None = ends ending.All both
one_by_one pairing which arrivals on both true (Some item) = ends ending.TooManySteps both
one_by_one pairing which arrivals on both false (Some item) =
    let course : PairCourse = handed_on pairing which (arrived arrivals both which item) in
    after_exits course.exits (unless_stopped on course.both course.ending)

abbrev pub deliver : Pairing → Which → Arrivals → ℕ → Both → PairCourse
deliver pairing which arrivals zero both = ends ending.All both
deliver pairing which arrivals (suc more) both =
    one_by_one pairing which arrivals (λ later. deliver pairing which arrivals more later) both (is_journal_full (side both which).past)
    (next_arrival (network pairing which) (side both which).past.entries (side both which).inputs arrivals)

-- 4. A line

abbrev pub until : ℕ → Which → Both → Ending → PairCourse
until end which both ending.All = ends ending.All (with_side both which (record (side both which) { past = on_to end (side both which).past }))
until end which both how = ends how both

abbrev pub played : Pairing → Which → Both → Command → List ℕ → PairCourse
played pairing which both (Do step) bytes = stepped pairing which both step bytes
played pairing which both (Damage hurt) bytes =
    tried pairing which both (with_damage both which hurt)
    (damage_refusal (network pairing which) (side both which).past.entries (side both which).inputs hurt bytes)
played pairing which both (Run ticks) bytes =
    let end : ℕ = (side both which).past.clock + ticks in
    let course : PairCourse = deliver pairing which (DueBy end) all both in
    after_exits course.exits (until end which course.both course.ending)
played pairing which both (Drain most) bytes = deliver pairing which News (most_of most) both
played pairing which both Flush bytes = deliver pairing which AllFrames all both
played pairing which both (Show table) bytes = ends ending.All both
