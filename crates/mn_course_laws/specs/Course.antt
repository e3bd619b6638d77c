-- The course of one line of a script.
use Rattle.std.specs.Prelude.{ℕ, zero, suc, ◌+◌, max, Bool, true, false, cond, nat_le, List, [], ◌∷◌, ◌++◌, length, slice_get, Option, Some, None}
use Rattle.mn_base.specs.Limits.{most_steps}
use Rattle.mn_topo.specs.Network.{Network}
use Rattle.mn_topo.specs.declared.steps.Step.{Step}
use Rattle.mn_topo.specs.declared.steps.Step.TheVariants.{Inject}
use Rattle.mn_topo.specs.declared.steps.JournalEntry.{JournalEntry}
use Rattle.mn_topo.specs.declared.steps.Damage as damage
use Rattle.mn_topo.specs.declared.steps.Damaged.{Damaged}
use Rattle.mn_topo.specs.declared.steps.Damaged.TheVariants.{Undamaged, Forth, Back}
use Rattle.mn_entry.specs.Damages.{number_of, entry_for}
use Rattle.mn_script.specs.declared.command.Command.{Command}
use Rattle.mn_script.specs.declared.command.Command.TheVariants.{Do, Damage, Run, Drain, Flush, Show}
use Rattle.mn_ledger.specs.declared.refused.Refused.{Refused}
use Rattle.mn_ledger.specs.declared.refused.Refused.TheVariants as cause
use Rattle.mn_ledger.specs.Refusal.{refusal}
use Rattle.mn_damage.specs.Allowed.{looks}
use Rattle.mn_damage.specs.Refusals.{damage_refusal}
use Rattle.mn_course_laws.specs.declared.coming.Coming.{Coming}
use Rattle.mn_course_laws.specs.declared.coming.Arrivals.{Arrivals}
use Rattle.mn_course_laws.specs.declared.coming.Arrivals.TheVariants.{DueBy, News, AllFrames}
use Rattle.mn_course_laws.specs.declared.coming.Ending.{Ending}
use Rattle.mn_course_laws.specs.declared.coming.Ending.TheVariants as ending
use Rattle.mn_course_laws.specs.Coming.{next_arrival, delivery}
use Rattle.mn_ledger.specs.Time.{ticks_in}

-- 1. What has happened

-- the clock, and the steps done, each with its tick
pub record Past : Type 0 where
  pub clock : ℕ
  pub entries : List JournalEntry

-- what has happened after a line, and how the line ended
pub record Course : Type 0 where
  pub past : Past
  pub ending : Ending

abbrev pub ends : Ending → Past → Course
ends how past = record { past = past; ending = how }

-- one step more, at the present tick; a step in which time passes moves the clock
abbrev pub with_step : Past → Step → Past
with_step past step = record {
  clock = past.clock + ticks_in step;
  entries = past.entries ++ record { tick = past.clock; step = step; damaged = Undamaged } ∷ [];
}

-- one damage more, at the present tick
abbrev pub with_damage : Past → damage.Damage → Past
with_damage past hurt = record { clock = past.clock; entries = past.entries ++ entry_for past.clock hurt ∷ [] }

-- the clock goes on to a tick, and never back
abbrev pub on_to : ℕ → Past → Past
on_to tick past = record { clock = max past.clock tick; entries = past.entries }

-- 2. The packets of a journal

-- the packet of a record of the capture, numbered from 1
abbrev pub record_of : List (List ℕ) → ℕ → Option (List ℕ)
record_of capture zero = None
record_of capture (suc before) = slice_get capture before

abbrev pub bytes_of : Option (List ℕ) → List ℕ
bytes_of None = []
bytes_of (Some bytes) = bytes

-- with the packet that a step injects
abbrev pub input_before : List (List ℕ) → Step → List (List ℕ) → List (List ℕ)
input_before capture (Inject s number) later = bytes_of (record_of capture number) ∷ later
input_before capture _ later = later

-- the packets that a journal's steps inject, in order
abbrev pub inputs_of : List (List ℕ) → List JournalEntry → List (List ℕ)
inputs_of capture [] = []
inputs_of capture (entry ∷ entries) = input_before capture entry.step (inputs_of capture entries)

-- the record at which an entry looks: one whose packet it injects, or whose packet came in place of a message; 0 where it looks at none
abbrev pub record_in : Step → Damaged → ℕ
record_in (Inject s number) mark = number
record_in step Undamaged = 0
record_in step (Forth number) = number
record_in step (Back number) = number

abbrev pub packet_for : List (List ℕ) → JournalEntry → List ℕ
packet_for capture entry = bytes_of (record_of capture (record_in entry.step entry.damaged))

-- the packets at which a journal's entries look, in order
abbrev pub packets_for : List (List ℕ) → List JournalEntry → List (List ℕ)
packets_for capture [] = []
packets_for capture (entry ∷ entries) =
    cond (looks entry) (packet_for capture entry ∷ packets_for capture entries) (packets_for capture entries)

-- 3. A step

-- what is done, or refused; what nothing else refuses is stopped by a full journal
abbrev pub unless_refused : Past → Past → Option Refused → Course
unless_refused done past None = ends ending.All done
unless_refused done past (Some cause.TooManySteps) = ends ending.TooManySteps past
unless_refused done past (Some why) = ends (ending.Refused why) past

abbrev pub tried : Past → Step → Option Refused → Course
tried past step why = unless_refused (with_step past step) past why

abbrev pub refusal_now : Network → List (List ℕ) → Past → Step → List ℕ → Option Refused
refusal_now topology capture past step bytes = refusal topology past.entries (inputs_of capture past.entries) step bytes

-- that the capture hasn't the record comes before every refusal
abbrev pub injected : Network → List (List ℕ) → Past → Step → Option (List ℕ) → Course
injected topology capture past step None = ends ending.NoRecord past
injected topology capture past step (Some bytes) = tried past step (refusal_now topology capture past step bytes)

abbrev pub stepped : Network → List (List ℕ) → Past → Step → Course
stepped topology capture past (Inject s number) = injected topology capture past (Inject s number) (record_of capture number)
stepped topology capture past step = tried past step (refusal_now topology capture past step [])

-- a damaged message: that the capture hasn't the record comes before every refusal
abbrev pub damage_refused_by : Network → List (List ℕ) → Past → damage.Damage → List ℕ → Option Refused
damage_refused_by topology capture past hurt bytes = damage_refusal topology past.entries (inputs_of capture past.entries) hurt bytes

abbrev pub damaged : Network → List (List ℕ) → Past → damage.Damage → Option (List ℕ) → Course
damaged topology capture past hurt None = ends ending.NoRecord past
damaged topology capture past hurt (Some bytes) = unless_refused (with_damage past hurt) past (damage_refused_by topology capture past hurt bytes)

-- 4. What arrives, one after another

-- an item arrives as it is due, or by `drain` at the present tick
abbrev pub as_due : Arrivals → ℕ → Past → Past
as_due News due past = past
as_due (DueBy end) due past = on_to due past
as_due AllFrames due past = on_to due past

abbrev pub arrived : Arrivals → Past → Coming → Past
arrived arrivals past item = with_step (as_due arrivals item.due past) (delivery item)

-- the journal has the most steps that it may have
abbrev pub is_journal_full : Past → Bool
is_journal_full past = nat_le most_steps (length past.entries)

-- one item arrives, if any comes and the journal isn't full, and then `on`
abbrev pub one_by_one : Arrivals → (Past → Course) → Past → Bool → Option Coming → Course
one_by_one arrivals on past full None = ends ending.All past
one_by_one arrivals on past true (Some item) = ends ending.TooManySteps past
one_by_one arrivals on past false (Some item) = on (arrived arrivals past item)

abbrev pub next_now : Network → List (List ℕ) → Arrivals → Past → Option Coming
next_now topology capture arrivals past = next_arrival topology past.entries (inputs_of capture past.entries) arrivals

-- at most so many items arrive, one after another
abbrev pub deliver : Network → List (List ℕ) → Arrivals → ℕ → Past → Course
deliver topology capture arrivals zero past = ends ending.All past
deliver topology capture arrivals (suc more) past =
    one_by_one arrivals (λ later. deliver topology capture arrivals more later) past (is_journal_full past) (next_now topology capture arrivals past)

-- more items than a journal has room for, so all of them
unfoldable pub all : ℕ
all = 4000001

-- 5. A line

-- the clock goes on to the end, unless a full journal stopped the line
abbrev pub until : ℕ → Past → Ending → Course
until end past ending.All = ends ending.All (on_to end past)
until end past how = ends how past

abbrev pub most_of : Option ℕ → ℕ
most_of (Some most) = most
most_of None = all

abbrev pub played : Network → List (List ℕ) → Past → Command → Course
played topology capture past (Do step) = stepped topology capture past step
played topology capture past (Damage hurt) = damaged topology capture past hurt (record_of capture (number_of hurt))
played topology capture past (Run ticks) =
    let course : Course = deliver topology capture (DueBy (past.clock + ticks)) all past in
    until (past.clock + ticks) course.past course.ending
played topology capture past (Drain most) = deliver topology capture News (most_of most) past
played topology capture past Flush = deliver topology capture AllFrames all past
played topology capture past (Show table) = ends ending.All past
