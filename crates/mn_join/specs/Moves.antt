-- What the parts of a line do.
use Rattle.std.specs.Prelude.{◌≡◌, ◌≢◌, ◌<◌, ℕ, Bool, true, false, List, [], ◌∷◌, ◌++◌, length, slice_index_or, Option, Some, None, Result, Ok, Err, ⊤}
use Rattle.mn_topo.specs.declared.steps.Step.{Step}
use Rattle.mn_topo.specs.declared.steps.Step.TheVariants.{Inject}
use Rattle.mn_topo.specs.declared.steps.Damage.{Damage}
use Rattle.mn_topo.specs.declared.steps.Damaged.{Damaged}
use Rattle.mn_topo.specs.declared.steps.Damaged.TheVariants.{Undamaged}
use Rattle.mn_entry.specs.Damages.{ending as end_of, mark_of}
use Rattle.mn_damage.specs.Refusals.{damage_refusal}
use Rattle.mn_base.specs.declared.numbers.SiteNo.{SiteNo}
use Rattle.mn_ledger.specs.declared.refused.Refused as why
use Rattle.mn_ledger.specs.declared.refused.Refused.TheVariants as cause
use Rattle.mn_ledger.specs.Packets.{Packets}
use Rattle.mn_ledger.specs.Refusal.{refusal}
use Rattle.mn_course_laws.specs.declared.coming.Arrivals.{Arrivals}
use Rattle.mn_course_laws.specs.declared.coming.Coming.{Coming}
use Rattle.mn_course_laws.specs.declared.coming.Ending.TheVariants as ending
use Rattle.mn_course_laws.specs.Coming.{next_arrival, delivery}
use Rattle.mn_course_laws.specs.Course.{with_step, as_due, is_journal_full}
use Rattle.mn_sched.specs.Done.{Done}
use Rattle.mn_sched.specs.Playing.{IsFirstPart}
use Rattle.mn_join_laws.specs.declared.leg.Which.{Which}
use Rattle.mn_join_laws.specs.Pairing.{opposite, Pairing, network, partner, Side, Both, side, packets_in, Travel, marked_step, with_travel, with_injection}
use Rattle.mn_join_laws.specs.Pairing.{Landing, landed}
use Rattle.mn_join_laws.specs.Course.{PairCourse, Exit, ends, lands, arrived}
use Rattle.mn_join.specs.declared.side.Found.{Found}
use Rattle.mn_join.specs.declared.played.Played.{Played}
use Rattle.mn_join.specs.declared.played.Played.TheVariants.{All, Refused}
use Rattle.mn_join.specs.declared.played.PairBad.{PairBad}
use Rattle.mn_join.specs.declared.played.PairBad.TheVariants.{TooManySteps, NoMemory}
use Rattle.mn_join.specs.Pairs.{SideNow, PairNow, IsSide, IsStoppedSide, PairStands, HasStopped, Belong}
use Rattle.mn_join.specs.Plays.{HasBegun, ComeFirst}

-- 1. One network

-- a step that injects nothing, with its mark
abbrev pub marked_side : Side → Step → Damaged → Side
marked_side old step mark = record old { past = marked_step old.past step mark }

abbrev pub stepped_side : Side → Step → Side
stepped_side old step = marked_side old step Undamaged

-- a damaged message ends its session
abbrev pub damaged_side : Side → Damage → Side
damaged_side old damage = marked_side old (end_of damage) (mark_of damage)

-- an injection, as a leg of a packet
abbrev pub entered_side : Side → SiteNo → ℕ → List ℕ → ℕ → Side
entered_side old site number bytes owner = record {
  past = with_step old.past (Inject site number);
  inputs = old.inputs ++ bytes ∷ [];
  owners = old.owners ++ owner ∷ [];
}

-- what comes next arrives
abbrev pub arrived_side : Arrivals → Side → Coming → Side
arrived_side arrivals old item = record old { past = with_step (as_due arrivals item.due old.past) (delivery item) }

abbrev pub refusal_in : Pairing → Which → Side → Step → List ℕ → Option why.Refused
refusal_in pairing which side step bytes = refusal (network pairing which) side.past.entries side.inputs step bytes

-- nothing refused it, and it is done; or that refuses it, and nothing has changed
abbrev pub SideTries : Pairing → Which → Side → Side → Option why.Refused → SideNow → Result (Unit {0}) why.Refused → Type 0
SideTries pairing which side done refused new (Ok x) = (refused ≡ None) × IsSide pairing which new done
SideTries pairing which side done refused new (Err cause.NoMemory) = ⊤
SideTries pairing which side done refused new (Err why) = (refused ≡ Some why) × IsSide pairing which new side

abbrev pub Steps : Pairing → Which → Side → Step → SideNow → Result (Unit {0}) why.Refused → Type 0
Steps pairing which side step new result = SideTries pairing which side (stepped_side side step) (refusal_in pairing which side step []) new result

abbrev pub damage_refusal_in : Pairing → Which → Side → Damage → List ℕ → Option why.Refused
damage_refusal_in pairing which side damage bytes = damage_refusal (network pairing which) side.past.entries side.inputs damage bytes

abbrev pub Damages : Pairing → Which → Side → Damage → List ℕ → SideNow → Result (Unit {0}) why.Refused → Type 0
Damages pairing which side damage bytes new result =
    SideTries pairing which side (damaged_side side damage) (damage_refusal_in pairing which side damage bytes) new result

-- with the number of the injection
abbrev pub Enters : Pairing → Which → Side → SiteNo → ℕ → List ℕ → ℕ → SideNow → Result ℕ why.Refused → Type 0
Enters pairing which side site number bytes owner new (Ok packet) =
    (refusal_in pairing which side (Inject site number) bytes ≡ None) × (packet ≡ length side.inputs)
    × IsSide pairing which new (entered_side side site number bytes owner)
Enters pairing which side site number bytes owner new (Err cause.NoMemory) = ⊤
Enters pairing which side site number bytes owner new (Err why) =
    (refusal_in pairing which side (Inject site number) bytes ≡ Some why) × IsSide pairing which new side

abbrev pub next_in : Pairing → Which → Side → Arrivals → Option Coming
next_in pairing which side arrivals = next_arrival (network pairing which) side.past.entries side.inputs arrivals

-- whether anything came
abbrev pub Arrives : Pairing → Which → Arrivals → Side → SideNow → Result Bool PairBad → Type 0
Arrives pairing which arrivals side new (Ok false) = (next_in pairing which side arrivals ≡ None) × IsSide pairing which new side
Arrives pairing which arrivals side new (Ok true) =
    (item : Coming) × (next_in pairing which side arrivals ≡ Some item) × (is_journal_full side.past ≡ false)
    × IsSide pairing which new (arrived_side arrivals side item)
Arrives pairing which arrivals side new (Err TooManySteps) =
    (item : Coming) × (next_in pairing which side arrivals ≡ Some item) × (is_journal_full side.past ≡ true) × IsStoppedSide pairing which new side
Arrives pairing which arrivals side new (Err NoMemory) = ⊤

-- what the last step has delivered: of which packet, where, and where that leads
abbrev pub leads_to : Option SiteNo → Option ℕ
leads_to None = None
leads_to (Some site) = Some site.0

pub record IsFound (pairing : Pairing) (which : Which) (side : Side) (packets : Packets) (found : Found) : Type 0 where
  pub landing : Landing
  pub landed : landed packets ≡ Some landing
  pub delivered : packets.delivered ≡ Some landing.bytes
  pub inside : landing.packet < length side.owners
  pub owner : found.owner ≡ slice_index_or side.owners landing.packet 0
  pub site : found.site.0 ≡ landing.site
  pub leads : leads_to found.partner ≡ partner pairing which landing.site

abbrev pub Finds : Pairing → Which → Side → Packets → Option Found → Type 0
Finds pairing which side packets None = landed packets ≡ None
Finds pairing which side packets (Some found) = IsFound pairing which side packets found

-- 2. Over a joint

-- the packet has one leg more, or is refused
abbrev pub TakesIn : Pairing → Which → Side → SiteNo → List ℕ → ℕ → Travel → Travel → SideNow → Result Bool PairBad → Type 0
TakesIn pairing which side site bytes owner old new now (Ok true) =
    (refusal_in pairing which side (Inject site old.number) bytes ≡ None)
    × (new ≡ record old { legs = old.legs ++ record { which = which; packet = length side.inputs } ∷ [] })
    × IsSide pairing which now (entered_side side site old.number bytes owner)
TakesIn pairing which side site bytes owner old new now (Ok false) =
    (why : why.Refused) × (refusal_in pairing which side (Inject site old.number) bytes ≡ Some why) × (why ≢ cause.TooManySteps)
    × (new ≡ record old { refused = Some why }) × IsSide pairing which now side
TakesIn pairing which side site bytes owner old new now (Err TooManySteps) =
    (refusal_in pairing which side (Inject site old.number) bytes ≡ Some cause.TooManySteps) × (new ≡ old) × IsSide pairing which now side
TakesIn pairing which side site bytes owner old new now (Err NoMemory) = ⊤

-- a network, the other one, and the packets are what has happened
pub record Standing (pairing : Pairing) (which : Which) (here there : SideNow) (travels : List Travel) (both : Both) : Type 0 where
  pub is_here : IsSide pairing which here (side both which)
  pub is_there : IsSide pairing (opposite which) there (side both (opposite which))
  pub same : travels ≡ both.travels
  pub belong : Belong both

-- what the network has just delivered goes on so
abbrev pub over : Pairing → Which → Both → (Both → PairCourse) → PairCourse
over pairing which both on = lands pairing both which on (landed (packets_in pairing both which))

-- it has entered the other network, or has come to its end
abbrev pub HandsOver : Pairing → Which → Both → SideNow → SideNow → List Travel → List Exit → List Exit → Result Bool PairBad → Type 0
HandsOver pairing which both here there travels old new (Ok true) =
    (later : Both) × Standing pairing which here there travels later × (new ≡ old) × ((on : Both → PairCourse) → over pairing which both on ≡ on later)
HandsOver pairing which both here there travels old new (Ok false) =
    (course : PairCourse) × (course.ending ≡ ending.All) × Standing pairing which here there travels course.both × (new ≡ old ++ course.exits)
    × ((on : Both → PairCourse) → over pairing which both on ≡ course)
HandsOver pairing which both here there travels old new (Err TooManySteps) =
    Standing pairing which here there travels both × (new ≡ old) × ((on : Both → PairCourse) → over pairing which both on ≡ ends ending.TooManySteps both)
HandsOver pairing which both here there travels old new (Err NoMemory) = ⊤

abbrev pub Crosses : Pairing → Which → Both → PairNow → PairNow → Result Bool PairBad → Type 0
Crosses pairing which both old new (Ok true) =
    (later : Both) × PairStands pairing new later × (new.exits ≡ old.exits) × ((on : Both → PairCourse) → over pairing which both on ≡ on later)
Crosses pairing which both old new (Ok false) =
    (course : PairCourse) × (course.ending ≡ ending.All) × PairStands pairing new course.both × (new.exits ≡ old.exits ++ course.exits)
    × ((on : Both → PairCourse) → over pairing which both on ≡ course)
Crosses pairing which both old new (Err TooManySteps) =
    PairStands pairing new both × (new.exits ≡ old.exits) × ((on : Both → PairCourse) → over pairing which both on ≡ ends ending.TooManySteps both)
Crosses pairing which both old new (Err NoMemory) = ⊤

-- 3. A part of a line

-- a network has done steps, if any, and its clock has gone on by at most 1,000,000 ticks for each
pub record GoesOn (old new : SideNow) : Type 0 where
  pub topology : new.net.topology ≡ old.net.topology
  pub partners : new.partners ≡ old.partners
  pub journal : IsFirstPart old.net.journal new.net.journal

-- this took its course, and what came out is behind what did before
abbrev pub Takes : Pairing → PairCourse → PairNow → PairNow → Result (Unit {0}) PairBad → Type 0
Takes pairing course old new (Ok x) = (course.ending ≡ ending.All) × PairStands pairing new course.both × (new.exits ≡ old.exits ++ course.exits)
Takes pairing course old new (Err TooManySteps) =
    (course.ending ≡ ending.TooManySteps) × HasStopped pairing new course.both × (new.exits ≡ old.exits ++ course.exits)
Takes pairing course old new (Err NoMemory) = HasBegun new course.both × ComeFirst new.exits (old.exits ++ course.exits)

pub record PairGoesOn (old new : PairNow) : Type 0 where
  pub first : GoesOn old.first new.first
  pub second : GoesOn old.second new.second

-- where memory was wanted no step was done
pub record StoodStill (old new : PairNow) : Type 0 where
  pub first : new.first.net.journal ≡ old.first.net.journal
  pub second : new.second.net.journal ≡ old.second.net.journal
  pub exits : new.exits ≡ old.exits

-- nothing refused the step, and it is done; or that refuses it, and nothing has changed
abbrev pub Tries : Pairing → Both → Both → Option why.Refused → PairNow → Result (Unit {0}) why.Refused → Type 0
Tries pairing both done refused new (Ok x) = (refused ≡ None) × PairStands pairing new done
Tries pairing both done refused new (Err cause.NoMemory) = ⊤
Tries pairing both done refused new (Err why) = (refused ≡ Some why) × PairStands pairing new both

-- whether anything came
abbrev pub ArrivesIn : Pairing → Which → Arrivals → Both → PairNow → Result Bool PairBad → Type 0
ArrivesIn pairing which arrivals both new (Ok false) = (next_in pairing which (side both which) arrivals ≡ None) × PairStands pairing new both
ArrivesIn pairing which arrivals both new (Ok true) =
    (item : Coming) × (next_in pairing which (side both which) arrivals ≡ Some item) × (is_journal_full (side both which).past ≡ false)
    × PairStands pairing new (arrived arrivals both which item)
ArrivesIn pairing which arrivals both new (Err TooManySteps) =
    (item : Coming) × (next_in pairing which (side both which) arrivals ≡ Some item) × (is_journal_full (side both which).past ≡ true)
    × HasStopped pairing new both
ArrivesIn pairing which arrivals both new (Err NoMemory) = ⊤

-- a line sends a packet
abbrev pub sent : Both → Which → SiteNo → ℕ → List ℕ → Both
sent both which site number bytes = with_injection (with_travel both number) which site.0 number bytes (length both.travels)

-- 4. Endings

-- whether a step was done, and else why not
abbrev pub stepped_by : Result Done why.Refused → Result (Unit {0}) why.Refused
stepped_by (Ok done) = Ok tt
stepped_by (Err why) = Err why

-- a step that is refused changes nothing, unless memory runs out
abbrev pub Undone : {T X : Type 0} → X → X → Result T why.Refused → Type 0
Undone old new (Ok x) = ⊤
Undone old new (Err cause.NoMemory) = ⊤
Undone old new (Err why) = new ≡ old

abbrev pub ended_by : why.Refused → Result Played PairBad
ended_by cause.TooManySteps = Err TooManySteps
ended_by cause.NoMemory = Err NoMemory
ended_by why = Ok (Refused why)

abbrev pub as_played : Result (Unit {0}) PairBad → Result Played PairBad
as_played (Ok x) = Ok All
as_played (Err bad) = Err bad
