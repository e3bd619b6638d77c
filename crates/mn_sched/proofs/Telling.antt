-- What a step comes to for the net and the watch.
use Rattle.std.proofs.Common.{◌≡◌, ◌≢◌, ℕ, ◌+◌, ◌≤◌, max, arith, Bool, true, false, List, [], ◌∷◌, ◌++◌, length, Option, Some, None, IfSome}
use Rattle.std.proofs.Common.{Result}
use Rattle.std.proofs.Common.{Ok, Err, IfOk, OnOk, OnErr, refl, sym, ◌∙◌, ap, subst, length-append, if◌then◌else◌}
use Rattle.std.proofs.lemmas.List.{append-nil}
use Rattle.std.specs.Prelude.{nat_le}
use Rattle.std.specs.Option.{ForSome}
use Rattle.mn_base.proofs.Bools.{at_most_tells, and_right, and_on}
use Rattle.mn_topo.specs.Network.{Network}
use Rattle.mn_topo.specs.Steps.{fits}
use Rattle.mn_topo.specs.declared.steps.Step.{Step}
use Rattle.mn_topo.specs.declared.steps.Step.TheVariants.{Inject, Tick}
use Rattle.mn_topo.specs.declared.steps.JournalEntry.{JournalEntry}
use Rattle.mn_topo.specs.declared.steps.Damaged.TheVariants.{Undamaged}
use Rattle.mn_ledger.specs.declared.refused.Refused.{Refused}
use Rattle.mn_ledger.specs.declared.refused.Refused.TheVariants as cause
use Rattle.mn_ledger.specs.Refusal.{refusal, where_holds}
use Rattle.mn_ledger.specs.Ledger.{injects}
use Rattle.mn_ledger.specs.Time.{ticks_in}
use Rattle.mn_course_laws.specs.declared.coming.Arrivals.{Arrivals}
use Rattle.mn_course_laws.specs.declared.coming.Arrivals.TheVariants.{DueBy, News, AllFrames}
use Rattle.mn_course_laws.specs.declared.coming.Coming.{Coming}
use Rattle.mn_course_laws.specs.declared.coming.Ending.{Ending}
use Rattle.mn_course_laws.specs.declared.coming.Ending.TheVariants as ending
use Rattle.mn_script.specs.declared.command.Command.TheVariants.{Do}
use Rattle.mn_base.specs.declared.numbers.SiteNo.{SiteNo}
use Rattle.mn_course_laws.specs.Coming.{delivery, earlier, is_due_before, next_arrival}
use Rattle.mn_edge.specs.Faults.{GrewUnless}
use Rattle.mn_edge.specs.FaultLaws.{grew_by}
use Rattle.mn_sched.specs.Arriving.{ArrivesNext}
use Rattle.mn_course_laws.specs.Course.{Past, Course, ends, as_due, arrived, with_step, one_by_one, is_journal_full, inputs_of, input_before, bytes_of}
use Rattle.mn_course_laws.specs.Course.{record_of}
use Rattle.mn_course_laws.specs.Course.{injected, tried, unless_refused, stepped, with_damage, damage_refused_by, damaged, refusal_now, until, on_to}
use Rattle.mn_entry.specs.Damages.{number_of}
use Rattle.mn_topo.specs.declared.steps.Damage.{Damage}
use Rattle.mn_net.specs.declared.net.Done.{Done}
use Rattle.mn_ledger.specs.OneMore.{added, with_packet}
use Rattle.mn_ledger_laws.specs.Flight.{IsOpen}
use Rattle.mn_net.specs.Now.{NetNow, StandsFor}
use Rattle.std.specs.Prelude.{IsErrOf}
use Rattle.mn_net.specs.Done.{IsLonger, HasFailed, Leaves, Answers}
use Rattle.mn_sched.specs.declared.line.Played.{Played}
use Rattle.mn_sched.specs.declared.line.Played.TheVariants as played
use Rattle.mn_sched.specs.declared.line.Stopped.{Stopped}
use Rattle.mn_sched.specs.declared.line.Stopped.TheVariants.{TooManySteps, Read, Write, NoMemory}
use Rattle.mn_sched.specs.declared.watch.WatchBad.{WatchBad}
use Rattle.mn_sched.specs.declared.watch.WatchBad.TheVariants as bad
use Rattle.mn_sched.specs.Watching.{Counts, Together, Stood, Begun, MadeLast, LastFits}
use Rattle.mn_sched.specs.Playing.{past_of, IsFirstPart, Arrives, Takes, After, Caused, Finished, MissingIff, names_no_record, arrived_by, stopped_by}
use Rattle.mn_sched.specs.Playing.{IsOwnCause}
use Rattle.mn_sched.specs.Playing.{as_played, IsPaced, IsOneLonger, GoesOnFor}
use Rattle.mn_sched.proofs.Delivering.{first_part_refl, one_more}
use Rattle.mn_sched.proofs.Growing.{ok_then, IsMore, plain, by_step, inputs_of-push, Names, Moves, stood_by, standing_by, on_ok, made_by, fits_by, tried_more}
use Rattle.mn_sched.proofs.Growing.{takes_by, entry_paced, grown_by}

-- what holds of two holds of the earlier
pub earlier_has : (P : Coming → Type 0) (one other : Option Coming) → IfSome one P → IfSome other P → IfSome (earlier one other) P
earlier_has P None other a b = b
earlier_has P (Some x) None a b = a
earlier_has P (Some x) (Some y) a b = pick (is_due_before y.due y.number x.due x.number)
  where
    pick : (t : Bool) → IfSome (if t then Some y else Some x) P
    pick true = b
    pick false = a

-- 1. The packets of a longer journal

no_input : (capture : List (List ℕ)) (step : Step) → injects step ≡ false → input_before capture step [] ≡ []
no_input capture (Inject s n) h = absurd (let e : true ≡ false = h in cc)
no_input capture _ h = refl

same_inputs : (step : Step) (bytes : List ℕ) (inputs : List (List ℕ)) → injects step ≡ false → with_packet step bytes inputs ≡ inputs
same_inputs step bytes inputs h = ap (λ t. added t bytes inputs) h

-- a step that injects nothing takes no packet
pub takes_no_input : (capture : List (List ℕ)) (entries : List JournalEntry) (tick : ℕ) (step : Step) (bytes : List ℕ) → injects step ≡ false →
    with_packet step bytes (inputs_of capture entries) ≡ inputs_of capture (entries ++ record { tick = tick; step = step; damaged = Undamaged } ∷ [])
takes_no_input capture entries tick step bytes h =
    same_inputs step bytes (inputs_of capture entries) h
    ∙ sym (inputs_of-push capture entries (record { tick = tick; step = step; damaged = Undamaged })
    ∙ ap (λ l. inputs_of capture entries ++ l) (no_input capture step h)
    ∙ append-nil (inputs_of capture entries))

-- 2. The net and the watch, before the watch is told

-- they stand together where the clock was set on
pub set_on : (old mid : NetNow) (packets : Option (List (List ℕ))) (stands : Network → List JournalEntry → List (List ℕ) → Type 0) →
    mid.journal ≡ old.journal → mid.topology ≡ old.topology →
    ((inputs : List (List ℕ)) → StandsFor old inputs → StandsFor mid inputs) → Together old packets stands → Together mid packets stands
set_on old mid packets stands journal topology moves together = λ all told.
    let both = together all told in (
      subst (λ j. StandsFor mid (inputs_of all j)) (sym journal) (moves (inputs_of all old.journal) both.0),
      subst (λ t. stands t mid.journal (inputs_of all mid.journal)) (sym topology) (subst (λ j. stands old.topology j (inputs_of all j)) (sym journal) both.1),
    )

-- what a step makes of the net
more_of : (stepped : Result Done Refused) (mid new : NetNow) (step : Step) → OnOk stepped (IsLonger mid new step) →
    OnOk stepped (IsMore mid new (plain mid.tick step) (mid.tick + ticks_in step))
more_of stepped mid new step long = ok_then stepped _ _ long (by_step mid new step)

pub stood : (stepped : Result Done Refused) (mid new : NetNow) (step : Step) (bytes : List ℕ) (packets : Option (List (List ℕ))) (stands : Network →
    List JournalEntry → List (List ℕ) → Type 0) → Together mid packets stands → Names packets (with_packet step bytes) mid (plain mid.tick step) →
    OnOk stepped (IsLonger mid new step) → OnOk stepped (Moves (with_packet step bytes) mid new) → OnOk stepped (Stood new packets stands)
stood stepped mid new step bytes packets stands together named long moves =
    stood_by stepped mid new (plain mid.tick step) (mid.tick + ticks_in step) (with_packet step bytes) packets stands together named
    (more_of stepped mid new step long) moves

pub made_last : (stepped : Result Done Refused) (mid new : NetNow) (step : Step) (bytes : List ℕ) (packets : Option (List (List ℕ))) (stands : Network →
    List JournalEntry → List (List ℕ) → Type 0) → Together mid packets stands → Names packets (with_packet step bytes) mid (plain mid.tick step) →
    OnOk stepped (IsLonger mid new step) → OnOk stepped (Moves (with_packet step bytes) mid new) → IfOk stepped (λ made. made.first ≡ mid.made) →
    IfOk stepped (λ made. made.end ≡ new.made) → IfOk stepped (λ made. MadeLast new packets made)
made_last stepped mid new step bytes packets stands together named long moves first end =
    made_by stepped mid new (plain mid.tick step) (mid.tick + ticks_in step) (with_packet step bytes) packets stands together named
    (more_of stepped mid new step long) moves first end

-- the step that was done fits
pub last_fits : (stepped : Result Done Refused) (mid new : NetNow) (step : Step) → fits mid.topology step ≡ true → OnOk stepped (IsLonger mid new step) →
    OnOk stepped (LastFits new)
last_fits stepped mid new step fit long =
    fits_by stepped mid new (plain mid.tick step) (mid.tick + ticks_in step) (and_on (fits mid.topology step) true fit refl) (more_of stepped mid new step long)

pub after_fault : (fault : WatchBad) (net : NetNow) (packets : Option (List (List ℕ))) (stands begins : Network → List JournalEntry → List (List ℕ) →
    Type 0) → ForSome packets (λ all. StandsFor net (inputs_of all net.journal)) → Begun net packets begins →
    After {T = Played} net packets stands begins (Err (stopped_by fault))
after_fault bad.Read net packets stands begins s b = λ all told. (s all told, b all told)
after_fault bad.Write net packets stands begins s b = λ all told. (s all told, b all told)
after_fault bad.NoMemory net packets stands begins s b = b

-- 3. One item that arrives

as_due_entries : (arrivals : Arrivals) (due : ℕ) (past : Past) → (as_due arrivals due past).entries ≡ past.entries
as_due_entries News due past = refl
as_due_entries (DueBy end) due past = refl
as_due_entries AllFrames due past = refl

pub same_journal : (arrivals : Arrivals) (due : ℕ) (old mid : NetNow) → past_of mid ≡ as_due arrivals due (past_of old) → mid.journal ≡ old.journal
same_journal arrivals due old mid e = ap (λ p. p.entries) e ∙ as_due_entries arrivals due (past_of old)

not_full : (full : Bool) → where_holds full cause.TooManySteps ≡ None → full ≡ false
not_full false h = refl
not_full true h = absurd (let e : Some cause.TooManySteps ≡ None = h in cc)

full_is : (full : Bool) (why : Refused) → where_holds full cause.TooManySteps ≡ Some why → (full ≡ true) × (cause.TooManySteps ≡ why)
full_is true why h = (refl, let e : Some cause.TooManySteps ≡ Some why = h in cc)
full_is false why h = absurd (let e : None ≡ Some why = h in cc)

longer : (mid new : NetNow) (step : Step) → IsLonger mid new step → past_of new ≡ with_step (past_of mid) step
longer mid new step l =
    ap (λ t. record { clock = t; entries = new.journal }) l.tick ∙ ap (λ j. record { clock = mid.tick + ticks_in step; entries = j }) l.journal

done_is : (arrivals : Arrivals) (item : Coming) (old mid new : NetNow) (step : Step) → past_of mid ≡ as_due arrivals item.due (past_of old) →
    step ≡ delivery item → IsLonger mid new step → past_of new ≡ arrived arrivals (past_of old) item
done_is arrivals item old mid new step past is l =
    longer mid new step l ∙ ap (λ p. with_step p step) past ∙ ap (with_step (as_due arrivals item.due (past_of old))) is ∙ unroll arrivals
  where
    unroll : (a : Arrivals) → with_step (as_due a item.due (past_of old)) (delivery item) ≡ arrived a (past_of old) item
    unroll a = refl

pub one_arrives : (arrivals : Arrivals) (item : Coming) (old mid new : NetNow) (step : Step) (stepped : Result Done Refused)
    (ended : Result Played Stopped) → past_of mid ≡ as_due arrivals item.due (past_of old) → step ≡ delivery item →
    Answers (where_holds (is_journal_full (past_of old)) cause.TooManySteps) stepped → OnOk stepped (IsLonger mid new step) → Leaves mid new stepped →
    Finished stepped ended → Arrives (one_by_one arrivals (ends ending.All) (past_of old) (is_journal_full (past_of old)) (Some item)) new (arrived_by ended)
one_arrives arrivals item old mid new step (Ok made) ended past is answer long left finished =
    subst (λ b. Arrives (one_by_one arrivals (ends ending.All) (past_of old) b (Some item)) new (arrived_by ended))
    (sym (not_full (is_journal_full (past_of old)) answer)) (by ended finished)
  where
    now : past_of new ≡ arrived arrivals (past_of old) item
    now = done_is arrivals item old mid new step past is long

    part : IsFirstPart new.journal (arrived arrivals (past_of old) item).entries
    part = subst (λ p. IsFirstPart new.journal p.entries) now (first_part_refl new.journal)

    by : (e : Result Played Stopped) → Finished (let s : Result Done Refused = Ok made in s) e →
        Arrives (one_by_one arrivals (ends ending.All) (past_of old) false (Some item)) new (arrived_by e)
    by (Ok played.All) f = (refl, now)
    by (Ok (played.Refused why)) f = absurd f
    by (Ok played.NoRecord) f = absurd f
    by (Err TooManySteps) f = absurd f
    by (Err Read) f = part
    by (Err Write) f = part
    by (Err NoMemory) f = part
one_arrives arrivals item old mid new step (Err cause.TooManySteps) ended past is answer long left finished =
    subst (λ e. Arrives (one_by_one arrivals (ends ending.All) (past_of old) (is_journal_full (past_of old)) (Some item)) new (arrived_by e)) (sym finished)
    (subst (λ b. Arrives (one_by_one arrivals (ends ending.All) (past_of old) b (Some item)) new (Err TooManySteps))
    (sym (full_is (is_journal_full (past_of old)) cause.TooManySteps answer).0)
    (refl, ap (λ n. n.journal) left ∙ same_journal arrivals item.due old mid past))
one_arrives arrivals item old mid new step (Err cause.NoMemory) ended past is answer long left finished =
    subst (λ e. Arrives (one_by_one arrivals (ends ending.All) (past_of old) (is_journal_full (past_of old)) (Some item)) new (arrived_by e)) (sym finished)
    (subst (λ j. IsFirstPart j (one_by_one arrivals (ends ending.All) (past_of old) (is_journal_full (past_of old)) (Some item)).past.entries)
    (sym (left.journal ∙ same_journal arrivals item.due old mid past))
    (one_more arrivals (ends ending.All) (past_of old) (is_journal_full (past_of old)) (Some item) (λ later. first_part_refl later.entries)))
one_arrives arrivals item old mid new step (Err why) ended past is answer long left finished =
    absurd (let e = (full_is (is_journal_full (past_of old)) why answer).1 in cc)

-- the net and the watch after it
pub after_one : (stepped : Result Done Refused) (ended : Result Played Stopped) (mid new : NetNow) (packets : Option (List (List ℕ)))
    (stands stands_then begins_then : Network → List JournalEntry → List (List ℕ) → Type 0) → Together mid packets stands → Leaves mid new stepped →
    Finished stepped ended → OnOk stepped (After new packets stands_then begins_then ended) →
    OnErr stepped ((t : Network) (j : List JournalEntry) (i : List (List ℕ)) → stands t j i → stands_then t j i) →
    OnErr stepped ((t : Network) (j : List JournalEntry) (i : List (List ℕ)) → stands t j i → begins_then t j i) →
    After new packets stands_then begins_then (arrived_by ended)
after_one (Ok made) ended mid new packets stands stands_then begins_then together left finished after s b = by ended finished after
  where
    by : (e : Result Played Stopped) → Finished (let x : Result Done Refused = Ok made in x) e → After new packets stands_then begins_then e →
        After new packets stands_then begins_then (arrived_by e)
    by (Ok played.All) f a = a
    by (Ok (played.Refused why)) f a = absurd f
    by (Ok played.NoRecord) f a = absurd f
    by (Err TooManySteps) f a = a
    by (Err Read) f a = a
    by (Err Write) f a = a
    by (Err NoMemory) f a = a
after_one (Err cause.NoMemory) ended mid new packets stands stands_then begins_then together left finished after s b =
    subst (λ e. After new packets stands_then begins_then (arrived_by e)) (sym finished) (λ all told.
    subst (λ t. begins_then t new.journal (inputs_of all new.journal)) (sym left.topology)
    (subst (λ j. begins_then mid.topology j (inputs_of all j)) (sym left.journal)
    (b mid.topology mid.journal (inputs_of all mid.journal) (together all told).1)))
after_one (Err why) ended mid new packets stands stands_then begins_then together left finished after s b =
    subst (λ e. After new packets stands_then begins_then (arrived_by e)) (sym finished) (λ all told.
    subst (λ n. StandsFor n (inputs_of all n.journal) × stands_then n.topology n.journal (inputs_of all n.journal)) (sym left)
    ((together all told).0, s mid.topology mid.journal (inputs_of all mid.journal) (together all told).1))

-- the net stands for the packets that its journal names, in any capture
standing_then : (all : List (List ℕ)) (mid new : NetNow) (step : Step) → injects step ≡ false → IsLonger mid new step → Moves (with_packet step []) mid new →
    StandsFor mid (inputs_of all mid.journal) → StandsFor new (inputs_of all new.journal)
standing_then all mid new step free long moves before =
    standing_by mid new (plain mid.tick step) (mid.tick + ticks_in step) (with_packet step []) all (takes_no_input all mid.journal mid.tick step [] free)
    (by_step mid new step long) moves before

pub one_goes_on : (stepped : Result Done Refused) (ended : Result Played Stopped) (old mid new : NetNow) (step : Step) → mid.journal ≡ old.journal →
    ((inputs : List (List ℕ)) → StandsFor old inputs → StandsFor mid inputs) → injects step ≡ false → OnOk stepped (IsLonger mid new step) →
    OnOk stepped (Moves (with_packet step []) mid new) → Finished stepped ended → OnOk (arrived_by ended) (GoesOnFor old new)
one_goes_on (Ok made) ended old mid new step journal on free long moves finished = on_ok (arrived_by ended) (GoesOnFor old new) (λ all before.
    standing_then all mid new step free long moves (subst (λ j. StandsFor mid (inputs_of all j)) (sym journal) (on (inputs_of all old.journal) before)))
one_goes_on (Err cause.TooManySteps) ended old mid new step journal on free long moves finished =
    subst (λ e. OnOk (arrived_by e) (GoesOnFor old new)) (sym finished) tt
one_goes_on (Err cause.NoMemory) ended old mid new step journal on free long moves finished =
    subst (λ e. OnOk (arrived_by e) (GoesOnFor old new)) (sym finished) tt
one_goes_on (Err why) ended old mid new step journal on free long moves finished =
    subst (λ e. OnOk (arrived_by e) (GoesOnFor old new)) (sym finished) tt

pub step_goes_on : (stepped : Result Done Refused) (ended : Result Played Stopped) (old new : NetNow) (step : Step) → injects step ≡ false →
    OnOk stepped (IsLonger old new step) → Leaves old new stepped → OnOk stepped (Moves (with_packet step []) old new) → Finished stepped ended →
    OnOk ended (GoesOnFor old new)
step_goes_on (Ok made) ended old new step free long left moves finished = on_ok ended (GoesOnFor old new) (λ all before.
    standing_then all old new step free long moves before)
step_goes_on (Err cause.TooManySteps) ended old new step free long left moves finished = subst (λ e. OnOk e (GoesOnFor old new)) (sym finished) tt
step_goes_on (Err cause.NoMemory) ended old new step free long left moves finished = subst (λ e. OnOk e (GoesOnFor old new)) (sym finished) tt
step_goes_on (Err why) ended old new step free long left moves finished = subst (λ e. OnOk e (GoesOnFor old new)) (sym finished)
    (λ all before. subst (λ n. StandsFor n (inputs_of all n.journal)) (sym left) before)

-- what refuses an item's step once the clock is set on
pub opens_then : (old mid : NetNow) (inputs : List (List ℕ)) (step item_step : Step) (stepped : Result Done Refused) → mid.journal ≡ old.journal →
    mid.topology ≡ old.topology → step ≡ item_step → IsOpen old.topology old.journal inputs item_step →
    Answers (refusal mid.topology mid.journal inputs step []) stepped → Answers (where_holds (is_journal_full (past_of old)) cause.TooManySteps) stepped
opens_then old mid inputs step item_step stepped journal topology is opens answer =
    let P : Option Refused → Type 0 = λ r. Answers r stepped in
    subst P (ap (λ t. refusal t mid.journal inputs step []) topology ∙ ap (λ j. refusal old.topology j inputs step []) journal
    ∙ ap (λ s. refusal old.topology old.journal inputs s []) is ∙ opens.refused) answer

-- one item arrives, with any packets
pub arrives_by : (arrivals : Arrivals) (item : Coming) (old mid new : NetNow) (inputs : List (List ℕ)) (step : Step) (stepped : Result Done Refused) →
    past_of mid ≡ as_due arrivals item.due (past_of old) → mid.topology ≡ old.topology → step ≡ delivery item → injects step ≡ false →
    Answers (where_holds (is_journal_full (past_of old)) cause.TooManySteps) stepped → OnOk stepped (IsLonger mid new step) → Leaves mid new stepped →
    OnOk stepped ((packets : List (List ℕ)) → StandsFor mid packets → StandsFor new (with_packet step [] packets)) → StandsFor mid inputs →
    next_arrival old.topology old.journal inputs arrivals ≡ Some item → ArrivesNext old new inputs arrivals (Some stepped)
arrives_by arrivals item old mid new inputs step (Ok made) past topology is plain answer long left moves stands comes = (
  item,
  record {
    comes = comes;
    room = not_full (is_journal_full (past_of old)) answer;
    past = done_is arrivals item old mid new step past is long;
    stands = subst (StandsFor new) (same_inputs step [] inputs plain) (moves inputs stands);
    topology = long.topology ∙ topology;
  },
)
arrives_by arrivals item old mid new inputs step (Err cause.TooManySteps) past topology is plain answer long left moves stands comes = (
  item,
  record {
    comes = comes;
    full = (full_is (is_journal_full (past_of old)) cause.TooManySteps answer).0;
    journal = ap (λ n. n.journal) left ∙ same_journal arrivals item.due old mid past;
    stands = subst (λ n. StandsFor n inputs) (sym left) stands;
    topology = ap (λ n. n.topology) left ∙ topology;
  },
)
arrives_by arrivals item old mid new inputs step (Err cause.NoMemory) past topology is plain answer long left moves stands comes =
    (left.journal ∙ same_journal arrivals item.due old mid past, left.topology ∙ topology)
arrives_by arrivals item old mid new inputs step (Err why) past topology is plain answer long left moves stands comes =
    absurd (let e = (full_is (is_journal_full (past_of old)) why answer).1 in cc)

-- 4. A step of a line

pub step_takes : (old new : NetNow) (step : Step) (why : Option Refused) (stepped : Result Done Refused) (ended : Result Played Stopped) →
    Answers why stepped → OnOk stepped (IsLonger old new step) → Leaves old new stepped → Finished stepped ended →
    Takes (tried (past_of old) step why) new ended
step_takes old new step why stepped ended answer long left finished =
    takes_by old new (plain old.tick step) (old.tick + ticks_in step) why stepped ended answer (more_of stepped old new step long) left finished

pub after_step : (stepped : Result Done Refused) (ended : Result Played Stopped) (mid new : NetNow) (packets : Option (List (List ℕ)))
    (stands stands_then begins_then : Network → List JournalEntry → List (List ℕ) → Type 0) → Together mid packets stands → Leaves mid new stepped →
    Finished stepped ended → OnOk stepped (After new packets stands_then begins_then ended) →
    OnErr stepped ((t : Network) (j : List JournalEntry) (i : List (List ℕ)) → stands t j i → stands_then t j i) →
    OnErr stepped ((t : Network) (j : List JournalEntry) (i : List (List ℕ)) → stands t j i → begins_then t j i) →
    After new packets stands_then begins_then ended
after_step (Ok made) ended mid new packets stands stands_then begins_then together left finished after s b = after
after_step (Err cause.NoMemory) ended mid new packets stands stands_then begins_then together left finished after s b =
    subst (λ e. After new packets stands_then begins_then e) (sym finished) (λ all told.
    subst (λ t. begins_then t new.journal (inputs_of all new.journal)) (sym left.topology)
    (subst (λ j. begins_then mid.topology j (inputs_of all j)) (sym left.journal)
    (b mid.topology mid.journal (inputs_of all mid.journal) (together all told).1)))
after_step (Err why) ended mid new packets stands stands_then begins_then together left finished after s b =
    subst (λ e. After new packets stands_then begins_then e) (sym finished) (λ all told.
    subst (λ n. StandsFor n (inputs_of all n.journal) × stands_then n.topology n.journal (inputs_of all n.journal)) (sym left)
    ((together all told).0, s mid.topology mid.journal (inputs_of all mid.journal) (together all told).1))

pub finished_missing : (stepped : Result Done Refused) (ended : Result Played Stopped) → Finished stepped ended → MissingIff false ended
finished_missing (Ok made) (Ok played.All) f = refl
finished_missing (Ok made) (Ok (played.Refused q)) f = refl
finished_missing (Ok made) (Ok played.NoRecord) f = absurd f
finished_missing (Ok made) (Err TooManySteps) f = refl
finished_missing (Ok made) (Err Read) f = tt
finished_missing (Ok made) (Err Write) f = tt
finished_missing (Ok made) (Err NoMemory) f = tt
finished_missing (Err cause.TooManySteps) ended f = subst (MissingIff false) (sym f) refl
finished_missing (Err cause.NoMemory) ended f = subst (MissingIff false) (sym f) tt
finished_missing (Err q) ended f = subst (MissingIff false) (sym f) refl

-- a step that injects nothing takes its course without a packet
pub stepped_plain : (topology : Network) (capture : List (List ℕ)) (past : Past) (step : Step) → injects step ≡ false →
    tried past step (refusal_now topology capture past step []) ≡ stepped topology capture past step
stepped_plain topology capture past (Inject s n) h = absurd (let e : true ≡ false = h in cc)
stepped_plain topology capture past _ h = refl

pub names_plain : (records : ℕ) (step : Step) → injects step ≡ false → names_no_record records (Do step) ≡ false
names_plain records (Inject s n) h = absurd (let e : true ≡ false = h in cc)
names_plain records _ h = refl

pub not_inject : (step : Step) → ((s : SiteNo) (n : ℕ) → step ≡ Inject s n → ⊥) → injects step ≡ false
not_inject (Inject s n) h = absurd (h s n refl)
not_inject _ h = refl

-- 5. Items that arrived, as a line

pub arrived_takes : (course : Course) (net : NetNow) (r : Result (Unit {0}) Stopped) → Arrives course net r → Takes course net (as_played r)
arrived_takes course net (Ok x) h = h
arrived_takes course net (Err why) h = h

pub arrived_after : (net : NetNow) (packets : Option (List (List ℕ))) (stands begins : Network → List JournalEntry → List (List ℕ) →
    Type 0) (r : Result (Unit {0}) Stopped) → After net packets stands begins r → After net packets stands begins (as_played r)
arrived_after net packets stands begins (Ok x) h = h
arrived_after net packets stands begins (Err TooManySteps) h = h
arrived_after net packets stands begins (Err Read) h = h
arrived_after net packets stands begins (Err Write) h = h
arrived_after net packets stands begins (Err NoMemory) h = h

pub arrived_missing : (r : Result (Unit {0}) Stopped) → MissingIff false (as_played r)
arrived_missing (Ok x) = refl
arrived_missing (Err TooManySteps) = refl
arrived_missing (Err Read) = tt
arrived_missing (Err Write) = tt
arrived_missing (Err NoMemory) = tt

pub arrived_cause : (excuse : Type 0) (old new : Counts) (r : Result (Unit {0}) Stopped) → Caused excuse old new r → Caused excuse old new (as_played r)
arrived_cause excuse old new (Ok x) h = h
arrived_cause excuse old new (Err TooManySteps) h = h
arrived_cause excuse old new (Err Read) h = h
arrived_cause excuse old new (Err Write) h = h
arrived_cause excuse old new (Err NoMemory) h = h

-- a call comes after others that left the counts, and its excuse is one for all
pub caused_after : {T : Type 0} (one other : Type 0) (first before now : Counts) (r : Result T Stopped) → before.0 ≡ first.0 → before.1 ≡ first.1 →
    (one → other) → Caused one before now r → Caused other first now r
caused_after one other first before now (Ok x) reads writes so h = (h.0 ∙ reads, h.1 ∙ writes)
caused_after one other first before now (Err TooManySteps) reads writes so h = (h.0 ∙ reads, h.1 ∙ writes)
caused_after one other first before now (Err Read) reads writes so h =
    (subst (λ n. GrewUnless other n now.0) reads (grew_by one other before.0 now.0 so h.0), h.1 ∙ writes)
caused_after one other first before now (Err Write) reads writes so h =
    (subst (λ n. GrewUnless other n now.1) writes (grew_by one other before.1 now.1 so h.0), h.1 ∙ reads)
caused_after one other first before now (Err NoMemory) reads writes so h = (h.0 ∙ reads, h.1 ∙ writes)

-- ticks pass after all that was due has arrived
pub run_takes : (end : ℕ) (course : Course) (mid new : NetNow) → Arrives course mid (Ok tt) → past_of new ≡ on_to end (past_of mid) →
    Takes (until end course.past course.ending) new (Ok played.All)
run_takes end course mid new h on =
    subst (λ e. Takes (until end course.past e) new (Ok played.All)) (sym h.0) (refl, on ∙ ap (on_to end) h.1)

until_entries : (end : ℕ) (past : Past) (how : Ending) → (until end past how).past.entries ≡ past.entries
until_entries end past ending.All = refl
until_entries end past _ = refl

pub run_stops : (end : ℕ) (course : Course) (net : NetNow) (why : Stopped) → Arrives course net (Err why) →
    Takes (until end course.past course.ending) net (Err why)
run_stops end course net TooManySteps h = subst (λ e. Takes (until end course.past e) net (Err TooManySteps)) (sym h.0) (refl, h.1)
run_stops end course net Read h = subst (λ l. IsFirstPart net.journal l) (sym (until_entries end course.past course.ending)) h
run_stops end course net Write h = subst (λ l. IsFirstPart net.journal l) (sym (until_entries end course.past course.ending)) h
run_stops end course net NoMemory h = subst (λ l. IsFirstPart net.journal l) (sym (until_entries end course.past course.ending)) h

-- 6. A step that injects a packet

pub takes_input : (capture : List (List ℕ)) (entries : List JournalEntry) (tick : ℕ) (step : Step) (s : SiteNo) (number : ℕ) (bytes : List ℕ) →
    step ≡ Inject s number → record_of capture number ≡ Some bytes →
    with_packet step bytes (inputs_of capture entries) ≡ inputs_of capture (entries ++ record { tick = tick; step = step; damaged = Undamaged } ∷ [])
takes_input capture entries tick step s number bytes is found =
    subst (λ x. with_packet x bytes (inputs_of capture entries) ≡ inputs_of capture (entries ++ record { tick = tick; step = x; damaged = Undamaged } ∷ []))
    (sym is)
    (sym (inputs_of-push capture entries (record { tick = tick; step = Inject s number; damaged = Undamaged })
    ∙ ap (λ o. inputs_of capture entries ++ bytes_of o ∷ []) found))

pub stepped_inject : (topology : Network) (capture : List (List ℕ)) (past : Past) (step : Step) (s : SiteNo) (number : ℕ) (bytes : List ℕ) →
    step ≡ Inject s number → record_of capture number ≡ Some bytes →
    tried past step (refusal_now topology capture past step bytes) ≡ stepped topology capture past step
stepped_inject topology capture past step s number bytes is found =
    subst (λ x. tried past x (refusal_now topology capture past x bytes) ≡ stepped topology capture past x) (sym is)
    (sym (ap (injected topology capture past (Inject s number)) found))

injected_more : (topology : Network) (capture : List (List ℕ)) (past : Past) (step : Step) (packet : Option (List ℕ)) →
    IsFirstPart past.entries (injected topology capture past step packet).past.entries
injected_more topology capture past step None = first_part_refl past.entries
injected_more topology capture past step (Some bytes) = tried_more (with_step past step) past (refusal_now topology capture past step bytes) (_, refl)

pub stepped_more : (topology : Network) (capture : List (List ℕ)) (past : Past) (step : Step) →
    IsFirstPart past.entries (stepped topology capture past step).past.entries
stepped_more topology capture past (Inject s n) = injected_more topology capture past (Inject s n) (record_of capture n)
stepped_more topology capture past step = tried_more (with_step past step) past (refusal_now topology capture past step []) (_, refl)

pub fault_takes : (course : Course) (net : NetNow) (fault : WatchBad) → IsFirstPart net.journal course.past.entries → Takes course net (Err (stopped_by fault))
fault_takes course net bad.Read h = h
fault_takes course net bad.Write h = h
fault_takes course net bad.NoMemory h = h

pub fault_missing : (missing : Bool) (fault : WatchBad) → MissingIff missing (Err (stopped_by fault))
fault_missing missing bad.Read = tt
fault_missing missing bad.Write = tt
fault_missing missing bad.NoMemory = tt

-- a damage of which the capture has the record takes its course, and one whose record is missing leaves all as it was
pub damaged_so : (topology : Network) (capture : List (List ℕ)) (past : Past) (damage : Damage) (bytes : List ℕ) →
    record_of capture (number_of damage) ≡ Some bytes →
    unless_refused (with_damage past damage) past (damage_refused_by topology capture past damage bytes)
    ≡ damaged topology capture past damage (record_of capture (number_of damage))
damaged_so topology capture past damage bytes found = sym (ap (damaged topology capture past damage) found)

pub damaged_more : (topology : Network) (capture : List (List ℕ)) (past : Past) (damage : Damage) (packet : Option (List ℕ)) →
    IsFirstPart past.entries (damaged topology capture past damage packet).past.entries
damaged_more topology capture past damage None = first_part_refl past.entries
damaged_more topology capture past damage (Some bytes) =
    tried_more (with_damage past damage) past (damage_refused_by topology capture past damage bytes) (_, refl)

-- 7. The clock

one_more_entry : (old mid new : NetNow) (step : Step) → mid.journal ≡ old.journal → IsLonger mid new step → length new.journal ≡ length old.journal + 1
one_more_entry old mid new step journal long =
    ap length long.journal ∙ length-append mid.journal (record { tick = mid.tick; step = step; damaged = Undamaged } ∷ []) ∙ ap (λ j. length j + 1) journal

-- a Tick of the topology goes on by at most as many ticks as a line may ask for
pub few_ticks : (topology : Network) (step : Step) → fits topology step ≡ true → ticks_in step ≤ 1000000
few_ticks topology (Tick ticks) fit = at_most_tells ticks 1000000 (and_right (nat_le 1 ticks) (nat_le ticks 1000000) fit)
few_ticks topology _ fit = omega arith

-- what is done of an item that arrived is done of no other end
ok_done : (stepped : Result Done Refused) (ended : Result Played Stopped) (P : Type 0) → OnOk stepped P → Finished stepped ended → OnOk (arrived_by ended) P
ok_done (Ok made) ended P h finished = by ended
  where
    by : (e : Result Played Stopped) → OnOk (arrived_by e) P
    by (Ok played.All) = h
    by (Ok (played.Refused why)) = tt
    by (Ok played.NoRecord) = tt
    by (Err why) = tt
ok_done (Err cause.TooManySteps) ended P h finished = subst (λ e. OnOk (arrived_by e) P) (sym finished) tt
ok_done (Err cause.NoMemory) ended P h finished = subst (λ e. OnOk (arrived_by e) P) (sym finished) tt
ok_done (Err why) ended P h finished = subst (λ e. OnOk (arrived_by e) P) (sym finished) tt

pub one_paced : (stepped : Result Done Refused) (ended : Result Played Stopped) (old mid new : NetNow) (step : Step) (due : ℕ) →
    mid.tick ≤ max old.tick due → due ≤ old.tick + 1000 → mid.journal ≡ old.journal → ticks_in step ≡ 0 → OnOk stepped (IsLonger mid new step) →
    Finished stepped ended → OnOk (arrived_by ended) (IsPaced 0 old new)
one_paced stepped ended old mid new step due le soon journal still long finished =
    ok_done stepped ended (IsPaced 0 old new) (ok_then stepped (IsLonger mid new step) (IsPaced 0 old new) long (λ l.
    let more = one_more_entry old mid new step journal l in
    (omega (arith, more), omega (arith, more, l.tick, still, le, soon)))) finished

pub one_longer : (stepped : Result Done Refused) (ended : Result Played Stopped) (old mid new : NetNow) (step : Step) → mid.journal ≡ old.journal →
    OnOk stepped (IsLonger mid new step) → Finished stepped ended → OnOk (arrived_by ended) (IsOneLonger old new)
one_longer stepped ended old mid new step journal long finished =
    ok_done stepped ended (IsOneLonger old new) (ok_then stepped (IsLonger mid new step) (IsOneLonger old new) long (λ l.
    let more = one_more_entry old mid new step journal l in
    let same = ap length journal in
    (more, omega (arith, more, same, l.room)))) finished

-- the same of a step that no watch is told of
pub longer_by : (stepped : Result Done Refused) (old mid new : NetNow) (step : Step) → mid.journal ≡ old.journal →
    OnOk stepped (IsLonger mid new step) → OnOk stepped (IsOneLonger old new)
longer_by stepped old mid new step journal long =
    ok_then stepped (IsLonger mid new step) (IsOneLonger old new) long (λ l.
    let more = one_more_entry old mid new step journal l in
    let same = ap length journal in
    (more, omega (arith, more, same, l.room)))

pub paced_by : (stepped : Result Done Refused) (old mid new : NetNow) (step : Step) (due : ℕ) →
    mid.tick ≤ max old.tick due → due ≤ old.tick + 1000 → mid.journal ≡ old.journal → ticks_in step ≡ 0 → OnOk stepped (IsLonger mid new step) →
    OnOk stepped (IsPaced 0 old new)
paced_by stepped old mid new step due le soon journal still long =
    ok_then stepped (IsLonger mid new step) (IsPaced 0 old new) long (λ l.
    let more = one_more_entry old mid new step journal l in
    (omega (arith, more), omega (arith, more, l.tick, still, le, soon)))

pub topology_by : (stepped : Result Done Refused) (mid new : NetNow) (step : Step) → OnOk stepped (IsLonger mid new step) → Leaves mid new stepped →
    new.topology ≡ mid.topology
topology_by (Ok made) mid new step long left = long.topology
topology_by (Err cause.NoMemory) mid new step long left = left.topology
topology_by (Err why) mid new step long left = ap (λ (n : NetNow). n.topology) left

pub left_by : (stepped : Result Done Refused) (old mid new : NetNow) → mid.journal ≡ old.journal → Leaves mid new stepped →
    OnErr stepped (new.journal ≡ old.journal)
left_by (Ok made) old mid new journal left = tt
left_by (Err cause.NoMemory) old mid new journal left = left.journal ∙ journal
left_by (Err why) old mid new journal left = ap (λ (n : NetNow). n.journal) left ∙ journal

-- a step in which no time passes leaves the clock, whatever it comes to
pub one_early : (stepped : Result Done Refused) (mid new : NetNow) (step : Step) → ticks_in step ≡ 0 → OnOk stepped (IsLonger mid new step) →
    Leaves mid new stepped → new.tick ≡ mid.tick
one_early (Ok made) mid new step still long left = omega (arith, long.tick, still)
one_early (Err cause.NoMemory) mid new step still long left = left.tick
one_early (Err why) mid new step still long left = ap (λ (n : NetNow). n.tick) left

pub step_paced : (stepped : Result Done Refused) (ended : Result Played Stopped) (old new : NetNow) (step : Step) → ticks_in step ≤ 1000000 →
    OnOk stepped (IsLonger old new step) → Leaves old new stepped → Finished stepped ended → OnOk ended (IsPaced 1000000 old new)
step_paced stepped ended old new step few long left finished =
    entry_paced stepped ended old new (plain old.tick step) (old.tick + ticks_in step) (omega (arith, few)) (more_of stepped old new step long) left finished

pub arrived_paced : (r : Result (Unit {0}) Stopped) (old new : NetNow) → OnOk r (IsPaced 0 old new) → OnOk (as_played r) (IsPaced 1000000 old new)
arrived_paced (Ok x) old new h = (h.0, omega (arith, h.1))
arrived_paced (Err why) old new h = tt

pub run_paced : (old mid new : NetNow) (ticks : ℕ) → ticks ≤ 1000000 → IsPaced 0 old mid → new.tick ≡ max mid.tick (old.tick + ticks) →
    new.journal ≡ mid.journal → IsPaced 1000000 old new
run_paced old mid new ticks few paced tick journal =
    let same : length new.journal ≡ length mid.journal = ap length journal in
    (omega (arith, same, paced.0), omega (arith, same, paced.0, paced.1, tick, few))

-- 8. What a step leaves, whether or not the net had failed before it

has_failed : (old new : NetNow) → old.failed ≡ true → new ≡ old → HasFailed old new
has_failed old new failed same =
    let stayed : HasFailed old old = record { topology = refl; journal = refl; tick = refl; failed = failed; verdicts = refl; paths = refl } in
    subst (λ later. HasFailed old later) (sym same) stayed

by_failed : {T : Type 0} (failed : Bool) (result : Result T Refused) (old new : NetNow) → old.failed ≡ failed →
    (old.failed ≡ false → Leaves old new result) → (old.failed ≡ true → IsErrOf result cause.NoMemory × (new ≡ old)) → Leaves old new result
by_failed false result old new is left for_good = left is
by_failed true result old new is left for_good =
    subst (λ r. Leaves old new r) (sym (for_good is).0) (has_failed old new is (for_good is).1)

pub leaves : {T : Type 0} (result : Result T Refused) (old new : NetNow) → (old.failed ≡ false → Leaves old new result) →
    (old.failed ≡ true → IsErrOf result cause.NoMemory × (new ≡ old)) → Leaves old new result
leaves result old new left for_good = by_failed old.failed result old new refl left for_good

-- 9. The network after a line that isn't done, and the journal after each

pub step_grown : (stepped : Result Done Refused) (old new : NetNow) (step : Step) → OnOk stepped (IsLonger old new step) → Leaves old new stepped →
    IsFirstPart old.journal new.journal
step_grown stepped old new step long left = grown_by stepped old new (plain old.tick step) (old.tick + ticks_in step) (more_of stepped old new step long) left

pub step_kept : (stepped : Result Done Refused) (ended : Result Played Stopped) (old new : NetNow) → Leaves old new stepped → Finished stepped ended →
    IfOk ended (λ p. p ≢ played.All → new ≡ old)
step_kept (Ok made) (Ok played.All) old new left finished = λ other. absurd (other refl)
step_kept (Ok made) (Ok (played.Refused why)) old new left finished = absurd finished
step_kept (Ok made) (Ok played.NoRecord) old new left finished = absurd finished
step_kept (Ok made) (Err why) old new left finished = tt
step_kept (Err cause.TooManySteps) ended old new left finished = subst (λ e. IfOk e (λ p. p ≢ played.All → new ≡ old)) (sym finished) tt
step_kept (Err cause.NoMemory) ended old new left finished = subst (λ e. IfOk e (λ p. p ≢ played.All → new ≡ old)) (sym finished) tt
step_kept (Err why) ended old new left finished = subst (λ e. IfOk e (λ p. p ≢ played.All → new ≡ old)) (sym finished) (λ other. left)

pub finished_refused : (stepped : Result Done Refused) (ended : Result Played Stopped) → Finished stepped ended → IfOk ended IsOwnCause
finished_refused (Ok made) (Ok played.All) f = tt
finished_refused (Ok made) (Ok (played.Refused why)) f = absurd f
finished_refused (Ok made) (Ok played.NoRecord) f = absurd f
finished_refused (Ok made) (Err why) f = tt
finished_refused (Err cause.TooManySteps) ended f = subst (λ e. IfOk e IsOwnCause) (sym f) tt
finished_refused (Err cause.NoMemory) ended f = subst (λ e. IfOk e IsOwnCause) (sym f) tt
finished_refused (Err why) ended f = subst (λ e. IfOk e IsOwnCause) (sym f) tt

pub arrived_kept : (r : Result (Unit {0}) Stopped) (old new : NetNow) → IfOk (as_played r) (λ p. p ≢ played.All → new ≡ old)
arrived_kept (Ok x) old new = λ other. absurd (other refl)
arrived_kept (Err why) old new = tt

pub arrived_refused : (r : Result (Unit {0}) Stopped) → IfOk (as_played r) IsOwnCause
arrived_refused (Ok x) = tt
arrived_refused (Err why) = tt
