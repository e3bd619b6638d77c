-- How the playing of a line ends.
use Rattle.std.specs.Prelude.{◌≡◌, ◌≤◌, ◌+◌, ◌*◌, ◌^◌, length, ℕ, Bool, true, false, not, List, ◌++◌, Option, Result, Ok, Err, ⊤}
use Rattle.std.specs.Option.{ForSome}
use Rattle.mn_topo.specs.Steps.{fits}
use Rattle.mn_topo.specs.declared.steps.Step.{Step}
use Rattle.mn_topo.specs.declared.steps.Step.TheVariants.{Inject}
use Rattle.mn_topo.specs.declared.steps.JournalEntry.{JournalEntry}
use Rattle.mn_entry.specs.Damages.{number_of}
use Rattle.mn_script.specs.declared.command.Command.{Command}
use Rattle.mn_script.specs.declared.command.Command.TheVariants.{Do, Damage, Show}
use Rattle.mn_course_laws.specs.declared.coming.Ending.TheVariants as ending
use Rattle.mn_course_laws.specs.declared.coming.Arrivals.{Arrivals}
use Rattle.mn_course_laws.specs.declared.coming.Arrivals.TheVariants.{DueBy, News, AllFrames}
use Rattle.mn_course_laws.specs.Coming.{ever}
use Rattle.mn_course_laws.specs.Course.{Past, Course, inputs_of}
use Rattle.mn_ledger.specs.Ledger.{injects}
use Rattle.mn_ledger.specs.Time.{ticks_in}
use Rattle.mn_ledger.specs.declared.refused.Refused as why
use Rattle.mn_ledger.specs.declared.refused.Refused.TheVariants as cause
use Rattle.mn_topo.specs.Network.{Network}
use Rattle.mn_net.specs.Now.{NetNow, StandsFor}
use Rattle.mn_sched.specs.declared.line.Played.{Played}
use Rattle.mn_sched.specs.declared.line.Played.TheVariants.{All, Refused, NoRecord}
use Rattle.mn_sched.specs.declared.line.Stopped.{Stopped}
use Rattle.mn_sched.specs.declared.line.Stopped.TheVariants.{TooManySteps, Read, Write, NoMemory}
use Rattle.mn_sched.specs.declared.watch.WatchBad.{WatchBad}
use Rattle.mn_sched.specs.declared.watch.WatchBad.TheVariants as bad
use Rattle.mn_edge.specs.Faults.{GrewUnless}
use Rattle.mn_sched.specs.Watching.{Counts, is_record, Together, Begun}
use Rattle.std.specs.List.{All as Each}
use Rattle.mn_base.specs.Limits.{most_steps}

-- the step has numbers of the topology, injects nothing, and lets no time pass
abbrev pub IsDelivery : Network → Step → Type 0
IsDelivery topology step = (fits topology step ≡ true) × (injects step ≡ false) × (ticks_in step ≡ 0)

-- what has happened to a net
abbrev pub past_of : NetNow → Past
past_of net = record { clock = net.tick; entries = net.journal }

-- the journal is a first part of these entries
abbrev pub IsFirstPart : List JournalEntry → List JournalEntry → Type 0
IsFirstPart front entries = (rest : List JournalEntry) × (front ++ rest ≡ entries)

-- the line took its course, or a first part of it where reading, writing or memory stopped it
abbrev pub Takes : Course → NetNow → Result Played Stopped → Type 0
Takes course net (Ok All) = (course.ending ≡ ending.All) × (past_of net ≡ course.past)
Takes course net (Ok (Refused why)) = (course.ending ≡ ending.Refused why) × (past_of net ≡ course.past)
Takes course net (Ok NoRecord) = (course.ending ≡ ending.NoRecord) × (past_of net ≡ course.past)
Takes course net (Err TooManySteps) = (course.ending ≡ ending.TooManySteps) × (net.journal ≡ course.past.entries)
Takes course net (Err why) = IsFirstPart net.journal course.past.entries

-- the same of items that arrive
abbrev pub Arrives : Course → NetNow → Result (Unit {0}) Stopped → Type 0
Arrives course net (Ok x) = Takes course net (Ok All)
Arrives course net (Err why) = Takes course net (Err why)

-- after all but a fault the net and the watch stand together; after a fault of the watch the net stands and the watch begins
abbrev pub After : {T : Type 0} → NetNow → Option (List (List ℕ)) → (Network → List JournalEntry → List (List ℕ) → Type 0) →
    (Network → List JournalEntry → List (List ℕ) → Type 0) → Result T Stopped → Type 0
After net packets stands begins (Ok x) = Together net packets stands
After net packets stands begins (Err TooManySteps) = Together net packets stands
After net packets stands begins (Err NoMemory) = Begun net packets begins
After net packets stands begins (Err why) =
    ForSome packets (λ all. StandsFor net (inputs_of all net.journal) × begins net.topology net.journal (inputs_of all net.journal))

-- each fault comes only where its own count rose, or by this excuse, and all else leaves both
abbrev pub Caused : {T : Type 0} → Type 0 → Counts → Counts → Result T Stopped → Type 0
Caused excuse old new (Err Read) = GrewUnless excuse old.0 new.0 × (new.1 ≡ old.1)
Caused excuse old new (Err Write) = GrewUnless excuse old.1 new.1 × (new.0 ≡ old.0)
Caused excuse old new result = (new.0 ≡ old.0) × (new.1 ≡ old.1)

-- a line is refused neither for a full journal nor because memory ran out
abbrev pub IsOwnCause : Played → Type 0
IsOwnCause (Refused cause.TooManySteps) = ⊥
IsOwnCause (Refused cause.NoMemory) = ⊥
IsOwnCause other = ⊤

-- the line injects a record that the capture hasn't, or one that was to come in place of a message
abbrev pub names_no_record : ℕ → Command → Bool
names_no_record records (Do (Inject s number)) = not (is_record records number)
names_no_record records (Damage damage) = not (is_record records (number_of damage))
names_no_record records command = false

-- that answer comes exactly there, but for faults and out of memory
abbrev pub MissingIff : Bool → Result Played Stopped → Type 0
MissingIff missing (Ok NoRecord) = missing ≡ true
MissingIff missing (Err Read) = ⊤
MissingIff missing (Err Write) = ⊤
MissingIff missing (Err NoMemory) = ⊤
MissingIff missing result = missing ≡ false

-- the line looks at no record of a capture: it injects nothing, and damages no message
abbrev pub looks_at_none : Command → Bool
looks_at_none (Do (Inject s number)) = false
looks_at_none (Damage damage) = false
looks_at_none command = true

-- a network that stood for the packets that its journal names in a capture stands for them still
abbrev pub GoesOnFor : NetNow → NetNow → Type 0
GoesOnFor old new = (capture : List (List ℕ)) → StandsFor old (inputs_of capture old.journal) → StandsFor new (inputs_of capture new.journal)

abbrev pub is_show : Command → Bool
is_show (Show table) = true
is_show command = false

-- the clock can still be set on
abbrev pub IsEarly : NetNow → Type 0
IsEarly net = net.tick ≤ 2 ^ 62

-- the clock may go on to a tick: no frame in flight is due before it
abbrev pub MayGoTo : NetNow → ℕ → Type 0
MayGoTo net tick = net.failed ≡ false → Each (λ frame. tick ≤ frame.due) net.moving.flying

-- it does so for an item that arrives as it is due
abbrev pub GoesTo : Arrivals → NetNow → ℕ → Type 0
GoesTo News net due = ⊤
GoesTo (DueBy end) net due = MayGoTo net due
GoesTo AllFrames net due = MayGoTo net due

-- all that was due by the end of a line has arrived, so that the clock may go on to it
abbrev pub IsGone : Arrivals → NetNow → Type 0
IsGone (DueBy end) net = MayGoTo net end
IsGone News net = ⊤
IsGone AllFrames net = ⊤

-- one entry more in the journal, which had room for it
abbrev pub IsOneLonger : NetNow → NetNow → Type 0
IsOneLonger old new = (length new.journal ≡ length old.journal + 1) × (length new.journal ≤ most_steps)

-- the ticks up to which these items may be due
abbrev pub limit_of : Arrivals → ℕ
limit_of (DueBy end) = end
limit_of News = ever
limit_of AllFrames = ever

-- what the network answered to a step, told to the watch
abbrev pub Finished : {T : Type 0} → Result T why.Refused → Result Played Stopped → Type 0
Finished (Ok made) (Ok All) = ⊤
Finished (Ok made) (Ok other) = ⊥
Finished (Ok made) (Err TooManySteps) = ⊥
Finished (Ok made) (Err other) = ⊤
Finished (Err cause.TooManySteps) result = result ≡ Err TooManySteps
Finished (Err cause.NoMemory) result = result ≡ Err NoMemory
Finished (Err refused) result = result ≡ Ok (Refused refused)

abbrev pub stopped_by : WatchBad → Stopped
stopped_by bad.Read = Read
stopped_by bad.Write = Write
stopped_by bad.NoMemory = NoMemory

abbrev pub arrived_by : Result Played Stopped → Result (Unit {0}) Stopped
arrived_by (Ok All) = Ok tt
arrived_by (Ok other) = Err TooManySteps
arrived_by (Err stopped) = Err stopped

abbrev pub as_played : Result (Unit {0}) Stopped → Result Played Stopped
as_played (Ok x) = Ok All
as_played (Err stopped) = Err stopped

-- no step is forgotten, and the clock went on by at most so many ticks, and by 1,000 for each step
abbrev pub IsPaced : ℕ → NetNow → NetNow → Type 0
IsPaced ticks old new = (length old.journal ≤ length new.journal) × (new.tick + 1000 * length old.journal ≤ old.tick + ticks + 1000 * length new.journal)
