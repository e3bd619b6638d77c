-- One entry more in the journal, whether a step or a damaged message made it: what it comes to for the net and the watch.
use Rattle.std.proofs.Common.{◌≡◌, ℕ, ◌+◌, ◌-◌, ◌≤◌, arith, true, List, [], ◌∷◌, ◌++◌, length, take, Option, Some, None, IfSome}
use Rattle.std.proofs.Common.{slice_get, Result}
use Rattle.std.proofs.Common.{Ok, Err, IfOk, OnOk, OnErr, refl, sym, ◌∙◌, ap, subst, length-append}
use Rattle.std.proofs.lemmas.List.{append-nil, take-append-le, take_all}
use Rattle.mn_topo.specs.Network.{Network}
use Rattle.mn_topo.specs.declared.steps.Step.{Step}
use Rattle.mn_topo.specs.declared.steps.Step.TheVariants.{Inject}
use Rattle.mn_topo.specs.declared.steps.Damage.{Damage}
use Rattle.mn_topo.specs.declared.steps.Damage.TheVariants.{Ldp, Bgp}
use Rattle.mn_topo.specs.declared.steps.Damaged.TheVariants.{Undamaged}
use Rattle.mn_topo.specs.declared.steps.JournalEntry.{JournalEntry}
use Rattle.mn_ledger.specs.declared.refused.Refused.{Refused}
use Rattle.mn_ledger.specs.declared.refused.Refused.TheVariants as cause
use Rattle.mn_ledger.specs.Time.{ticks_in}
use Rattle.mn_course_laws.specs.Course.{Past, inputs_of, input_before, unless_refused}
use Rattle.mn_entry.specs.Damages.{entry_for}
use Rattle.mn_entry.specs.Entries.{entry_fits}
use Rattle.mn_net.specs.declared.net.Done.{Done}
use Rattle.mn_net.specs.Damaged.{IsDamaged}
use Rattle.mn_net.specs.Now.{NetNow, StandsFor}
use Rattle.mn_net.specs.Done.{IsLonger, Leaves, Answers}
use Rattle.mn_sched.specs.declared.line.Played.{Played}
use Rattle.mn_sched.specs.declared.line.Played.TheVariants as played
use Rattle.mn_sched.specs.declared.line.Stopped.{Stopped}
use Rattle.mn_sched.specs.declared.line.Stopped.TheVariants.{TooManySteps, Read, Write, NoMemory}
use Rattle.mn_sched.specs.Watching.{Together, Stood, but_last, made_over, MadeLast, LastFits}
use Rattle.mn_sched.specs.Playing.{past_of, IsFirstPart, Takes, Finished, IsPaced}
use Rattle.mn_sched.proofs.Delivering.{first_part_refl}

pub on_ok : {T E : Type 0} (r : Result T E) (P : Type 0) → P → OnOk r P
on_ok (Ok x) P p = p
on_ok (Err e) P p = tt

pub ok_then : {T E : Type 0} (r : Result T E) (P Q : Type 0) → OnOk r P → (P → Q) → OnOk r Q
ok_then (Ok x) P Q p f = f p
ok_then (Err e) P Q p f = tt

pub err_then : {T E : Type 0} (r : Result T E) (P Q : Type 0) → OnErr r P → (P → Q) → OnErr r Q
err_then (Ok x) P Q p f = tt
err_then (Err e) P Q p f = f p

-- 1. One entry more

-- the journal has this entry more, and the clock stands at this tick
pub record IsMore (mid new : NetNow) (entry : JournalEntry) (clock : ℕ) : Type 0 where
  pub topology : new.topology ≡ mid.topology
  pub journal : new.journal ≡ mid.journal ++ entry ∷ []
  pub tick : new.tick ≡ clock

abbrev pub plain : ℕ → Step → JournalEntry
plain tick step = record { tick = tick; step = step; damaged = Undamaged }

pub by_step : (mid new : NetNow) (step : Step) → IsLonger mid new step → IsMore mid new (plain mid.tick step) (mid.tick + ticks_in step)
by_step mid new step long = record { topology = long.topology; journal = long.journal; tick = long.tick }

pub by_damage : (mid new : NetNow) (damage : Damage) → IsDamaged mid new damage → IsMore mid new (entry_for mid.tick damage) mid.tick
by_damage mid new damage long = record { topology = long.topology; journal = long.journal; tick = long.tick }

input_before-append : (capture : List (List ℕ)) (step : Step) (later tail : List (List ℕ)) →
    input_before capture step (later ++ tail) ≡ input_before capture step later ++ tail
input_before-append capture (Inject s n) later tail = refl
input_before-append capture _ later tail = refl

pub inputs_of-push : (capture : List (List ℕ)) (entries : List JournalEntry) (entry : JournalEntry) →
    inputs_of capture (entries ++ entry ∷ []) ≡ inputs_of capture entries ++ input_before capture entry.step []
inputs_of-push capture [] entry = refl
inputs_of-push capture (e ∷ es) entry =
    ap (input_before capture e.step) (inputs_of-push capture es entry)
    ∙ input_before-append capture e.step (inputs_of capture es) (input_before capture entry.step [])

-- a damage injects nothing
pub damage_takes_no_input : (capture : List (List ℕ)) (entries : List JournalEntry) (tick : ℕ) (damage : Damage) →
    inputs_of capture entries ≡ inputs_of capture (entries ++ entry_for tick damage ∷ [])
damage_takes_no_input capture entries tick (Ldp link dir number) =
    sym (inputs_of-push capture entries (entry_for tick (Ldp link dir number)) ∙ append-nil (inputs_of capture entries))
damage_takes_no_input capture entries tick (Bgp a b number) =
    sym (inputs_of-push capture entries (entry_for tick (Bgp a b number)) ∙ append-nil (inputs_of capture entries))

pub but_last-push : (entries : List JournalEntry) (entry : JournalEntry) → but_last (entries ++ entry ∷ []) ≡ entries
but_last-push entries entry =
    ap (λ n. take n (entries ++ entry ∷ [])) (let e : length (entries ++ entry ∷ []) - 1 ≡ length entries =
    omega (arith, length-append entries (entry ∷ [])) in e)
    ∙ take-append-le (length entries) entries (entry ∷ []) (let l : length entries ≤ length entries = omega arith in l)
    ∙ take_all (length entries) entries (let l : length entries ≤ length entries = omega arith in l)

-- 2. The net and the watch, before the watch is told

-- with the packets that its journal's steps name
abbrev pub Names : Option (List (List ℕ)) → (List (List ℕ) → List (List ℕ)) → NetNow → JournalEntry → Type 0
Names packets given mid entry =
    (all : List (List ℕ)) → packets ≡ Some all → given (inputs_of all mid.journal) ≡ inputs_of all (mid.journal ++ entry ∷ [])

abbrev pub Moves : (List (List ℕ) → List (List ℕ)) → NetNow → NetNow → Type 0
Moves given mid new = (inputs : List (List ℕ)) → StandsFor mid inputs → StandsFor new (given inputs)

pub stood_by : (stepped : Result Done Refused) (mid new : NetNow) (entry : JournalEntry) (clock : ℕ) (given : List (List ℕ) → List (List ℕ))
    (packets : Option (List (List ℕ))) (stands : Network → List JournalEntry → List (List ℕ) → Type 0) → Together mid packets stands →
    Names packets given mid entry → OnOk stepped (IsMore mid new entry clock) → OnOk stepped (Moves given mid new) → OnOk stepped (Stood new packets stands)
stood_by (Err why) mid new entry clock given packets stands together named long moves = tt
stood_by (Ok made) mid new entry clock given packets stands together named long moves = λ all told.
    let both = together all told in
    let before : but_last new.journal ≡ mid.journal = ap but_last long.journal ∙ but_last-push mid.journal entry in (
      subst (StandsFor new) (named all told ∙ ap (inputs_of all) (sym long.journal)) (moves (inputs_of all mid.journal) both.0),
      subst (λ t. stands t (but_last new.journal) (inputs_of all (but_last new.journal))) (sym long.topology)
          (subst (λ j. stands mid.topology j (inputs_of all j)) (sym before) both.1),
    )

-- the net stands for the packets that its journal's steps name, once a step is done
pub standing_by : (mid new : NetNow) (entry : JournalEntry) (clock : ℕ) (given : List (List ℕ) → List (List ℕ)) (all : List (List ℕ)) →
    given (inputs_of all mid.journal) ≡ inputs_of all (mid.journal ++ entry ∷ []) → IsMore mid new entry clock → Moves given mid new →
    StandsFor mid (inputs_of all mid.journal) → StandsFor new (inputs_of all new.journal)
standing_by mid new entry clock given all named long moves before =
    subst (StandsFor new) (named ∙ ap (inputs_of all) (sym long.journal)) (moves (inputs_of all mid.journal) before)

-- and what it has made by then is numbered on from what it had made
pub made_by : (stepped : Result Done Refused) (mid new : NetNow) (entry : JournalEntry) (clock : ℕ) (given : List (List ℕ) → List (List ℕ))
    (packets : Option (List (List ℕ))) (stands : Network → List JournalEntry → List (List ℕ) → Type 0) → Together mid packets stands →
    Names packets given mid entry → OnOk stepped (IsMore mid new entry clock) → OnOk stepped (Moves given mid new) →
    IfOk stepped (λ made. made.first ≡ mid.made) → IfOk stepped (λ made. made.end ≡ new.made) → IfOk stepped (λ made. MadeLast new packets made)
made_by (Err why) mid new entry clock given packets stands together named long moves first end = tt
made_by (Ok made) mid new entry clock given packets stands together named long moves first end = λ all told.
    let before = (together all told).0 in
    let was : but_last new.journal ≡ mid.journal = ap but_last long.journal ∙ but_last-push mid.journal entry in (
      first ∙ before.stands.made ∙ sym (ap (λ t. made_over t all (but_last new.journal)) long.topology ∙ ap (made_over mid.topology all) was),
      end ∙ (standing_by mid new entry clock given all (named all told) long moves before).stands.made,
    )

pushed_last : (entries : List JournalEntry) (entry : JournalEntry) → slice_get (entries ++ entry ∷ []) (length (entries ++ entry ∷ []) - 1) ≡ Some entry
pushed_last entries entry =
    ap (slice_get (entries ++ entry ∷ [])) (let e : length (entries ++ entry ∷ []) - 1 ≡ length entries =
    omega (arith, length-append entries (entry ∷ [])) in e)
    ∙ there entries
  where
    there : (es : List JournalEntry) → slice_get (es ++ entry ∷ []) (length es) ≡ Some entry
    there [] = refl
    there (e ∷ es) = there es

-- the entry fits
pub fits_by : (stepped : Result Done Refused) (mid new : NetNow) (entry : JournalEntry) (clock : ℕ) → entry_fits mid.topology entry ≡ true →
    OnOk stepped (IsMore mid new entry clock) → OnOk stepped (LastFits new)
fits_by (Err why) mid new entry clock fit long = tt
fits_by (Ok made) mid new entry clock fit long =
    subst (λ t. IfSome (slice_get new.journal (length new.journal - 1)) (λ last. entry_fits t last ≡ true)) (sym long.topology)
    (subst (λ o. IfSome o (λ last. entry_fits mid.topology last ≡ true))
    (sym (ap (λ j. slice_get j (length j - 1)) long.journal ∙ pushed_last mid.journal entry)) fit)

-- 3. The line's course, its clock, and the journal after it

pub more_past : (mid new : NetNow) (entry : JournalEntry) (clock : ℕ) → IsMore mid new entry clock →
    past_of new ≡ record { clock = clock; entries = mid.journal ++ entry ∷ [] }
more_past mid new entry clock long =
    ap (λ t. record { clock = t; entries = new.journal }) long.tick ∙ ap (λ j. record { clock = clock; entries = j }) long.journal

pub tried_more : (later past : Past) (why : Option Refused) → IsFirstPart past.entries later.entries →
    IsFirstPart past.entries (unless_refused later past why).past.entries
tried_more later past None h = h
tried_more later past (Some cause.TooManySteps) h = first_part_refl past.entries
tried_more later past (Some _) h = first_part_refl past.entries

pub takes_by : (old new : NetNow) (entry : JournalEntry) (clock : ℕ) (why : Option Refused) (stepped : Result Done Refused)
    (ended : Result Played Stopped) → Answers why stepped → OnOk stepped (IsMore old new entry clock) → Leaves old new stepped → Finished stepped ended →
    Takes (unless_refused (record { clock = clock; entries = old.journal ++ entry ∷ [] }) (past_of old) why) new ended
takes_by old new entry clock why (Ok made) ended answer long left finished =
    subst (λ w. Takes (unless_refused later (past_of old) w) new ended) (sym answer) (by ended finished)
  where
    later : Past
    later = record { clock = clock; entries = old.journal ++ entry ∷ [] }

    now : past_of new ≡ later
    now = more_past old new entry clock long

    part : IsFirstPart new.journal later.entries
    part = subst (λ (p : Past). IsFirstPart new.journal p.entries) now (first_part_refl new.journal)

    by : (e : Result Played Stopped) → Finished (let s : Result Done Refused = Ok made in s) e → Takes (unless_refused later (past_of old) None) new e
    by (Ok played.All) f = (refl, now)
    by (Ok (played.Refused q)) f = absurd f
    by (Ok played.NoRecord) f = absurd f
    by (Err TooManySteps) f = absurd f
    by (Err Read) f = part
    by (Err Write) f = part
    by (Err NoMemory) f = part
takes_by old new entry clock why (Err cause.TooManySteps) ended answer long left finished =
    let later : Past = record { clock = clock; entries = old.journal ++ entry ∷ [] } in
    subst (λ e. Takes (unless_refused later (past_of old) why) new e) (sym finished)
    (subst (λ w. Takes (unless_refused later (past_of old) w) new (Err TooManySteps)) (sym answer) (refl, ap (λ n. n.journal) left))
takes_by old new entry clock why (Err cause.NoMemory) ended answer long left finished =
    let later : Past = record { clock = clock; entries = old.journal ++ entry ∷ [] } in
    subst (λ e. Takes (unless_refused later (past_of old) why) new e) (sym finished)
    (subst (λ j. IsFirstPart j (unless_refused later (past_of old) why).past.entries) (sym left.journal) (tried_more later (past_of old) why (_, refl)))
takes_by old new entry clock why (Err q) ended answer long left finished =
    let later : Past = record { clock = clock; entries = old.journal ++ entry ∷ [] } in
    subst (λ e. Takes (unless_refused later (past_of old) why) new e) (sym finished)
    (subst (λ w. Takes (unless_refused later (past_of old) w) new (Ok (played.Refused q))) (sym answer) (refl, ap past_of left))

pub one_entry : (mid new : NetNow) (entry : JournalEntry) (clock : ℕ) → IsMore mid new entry clock → length new.journal ≡ length mid.journal + 1
one_entry mid new entry clock long = ap length long.journal ∙ length-append mid.journal (entry ∷ [])

pub entry_paced : (stepped : Result Done Refused) (ended : Result Played Stopped) (old new : NetNow) (entry : JournalEntry) (clock : ℕ) →
    clock ≤ old.tick + 1000000 →
    OnOk stepped (IsMore old new entry clock) → Leaves old new stepped → Finished stepped ended → OnOk ended (IsPaced 1000000 old new)
entry_paced (Ok made) ended old new entry clock few long left finished = on_ok ended (IsPaced 1000000 old new)
    (let more = one_entry old new entry clock long in (omega (arith, more), omega (arith, more, long.tick, few)))
entry_paced (Err cause.TooManySteps) ended old new entry clock few long left finished = subst (λ e. OnOk e (IsPaced 1000000 old new)) (sym finished) tt
entry_paced (Err cause.NoMemory) ended old new entry clock few long left finished = subst (λ e. OnOk e (IsPaced 1000000 old new)) (sym finished) tt
entry_paced (Err why) ended old new entry clock few long left finished =
    subst (λ e. OnOk e (IsPaced 1000000 old new)) (sym finished) (subst (λ n. IsPaced 1000000 old n) (sym left) (omega arith, omega arith))

pub grown_by : (stepped : Result Done Refused) (old new : NetNow) (entry : JournalEntry) (clock : ℕ) → OnOk stepped (IsMore old new entry clock) →
    Leaves old new stepped → IsFirstPart old.journal new.journal
grown_by (Ok made) old new entry clock long left = (entry ∷ [], sym long.journal)
grown_by (Err cause.NoMemory) old new entry clock long left = subst (λ j. IsFirstPart old.journal j) (sym left.journal) (first_part_refl old.journal)
grown_by (Err why) old new entry clock long left = subst (λ n. IsFirstPart old.journal n.journal) (sym left) (first_part_refl old.journal)
