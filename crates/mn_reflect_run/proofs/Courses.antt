-- How a run of reflected routes goes on, line by line.
use Rattle.std.proofs.Common.{ℕ, zero, suc, ◌≡◌, ◌≢◌, ◌+◌, ◌-◌, ◌<◌, ◌≤◌, ◌==◌, Bool, true, false, cond, List, [], ◌∷◌, ◌++◌, length, take, drop, get_or}
use Rattle.std.proofs.Common.{Option, Some, None, Result, Ok, Err, refl, arith, sym, ◌∙◌, ap, subst, append_assoc, length-append}
use Rattle.std.specs.Prelude.{nat_le, if◌then◌else◌, IfSome, OnOk, IfOk, IfErr}
use Rattle.std.proofs.lemmas.List.{append-nil, take_more, take-append-drop, drop_more}
use Rattle.std.specs.declared.alloc.AllocError.{AllocError}
use Rattle.mn_base.proofs.Bools.{at_most_is, not_at_most, same_numbers, other_numbers}
use Rattle.mn_base.specs.Limits.{most_steps}
use Rattle.mn_base.specs.declared.numbers.VrfNo.{VrfNo}
use Rattle.mn_topo.specs.Network.{Network}
use Rattle.mn_topo.specs.declared.steps.Step.{Step}
use Rattle.mn_ledger.specs.declared.refused.Refused.{Refused}
use Rattle.mn_ledger.specs.declared.refused.Refused.TheVariants as cause
use Rattle.mn_reflect_ledger_laws.specs.World.{world_of}
use Rattle.mn_reflect_ledger_laws.specs.Refusal.{refusal}
use Rattle.mn_reflect_world_laws.specs.Now.{ReflectNow}
use Rattle.mn_reflect_world_laws.specs.Steps.{takes}
use Rattle.mn_reflect.specs.Course.{IsRun, bad_of}
use Rattle.mn_reflect.specs.declared.refusal.ReflectBad.{ReflectBad}
use Rattle.mn_reflect.specs.declared.refusal.ReflectBad.TheVariants as bad
use Rattle.mn_reflect_run.specs.declared.command.ReflectCommand.{ReflectCommand}
use Rattle.mn_reflect_run.specs.declared.command.ReflectCommand.TheVariants as command
use Rattle.mn_reflect_run.specs.declared.command.ReflectLine.{ReflectLine}
use Rattle.mn_answer.specs.declared.played.Played.{Played}
use Rattle.mn_answer.specs.declared.played.Played.TheVariants as played
use Rattle.mn_reflect_run.specs.Course.{Note, Refusal, Table, ReflectRun, first_run, stepped, tried, unless_stopped, drained_by, drain_for, next_hearing}
use Rattle.mn_reflect_run.specs.Course.{most_of, asked, after_line, run_from, run_of}
use Rattle.mn_reflect_run.specs.Language.{command_fits}
use Rattle.mn_reflect_run.specs.Playing.{IsAt, Follows, IsAnswered, IsDrained, cause_of}

-- 1. A step more, or none where there are as many as there may be

pub full : (run : ReflectRun) (done : Step) → length run.steps ≡ most_steps → stepped run done ≡ record run { is_stopped = true }
full run done e =
    ap (λ b. cond b (record run { is_stopped = true }) (record run { steps = run.steps ++ done ∷ [] }))
    (at_most_is most_steps (length run.steps) (omega (arith, e)))

pub room : (run : ReflectRun) (done : Step) → length run.steps < most_steps → stepped run done ≡ record run { steps = run.steps ++ done ∷ [] }
room run done h =
    ap (λ b. cond b (record run { is_stopped = true }) (record run { steps = run.steps ++ done ∷ [] })) (not_at_most most_steps (length run.steps) h)

-- 2. A step of a line, by what it was answered

abbrev pub Done : Type 0
Done = Result (Unit {0}) ReflectBad

abbrev the_ok : Unit {0} → Done
the_ok done = Ok done

abbrev the_err : ReflectBad → Done
the_err why = Err why

same_err : (why other : ReflectBad) → the_err why ≡ Err other → why ≡ other
same_err why other e = cc

no_err : (done : Unit {0}) (why : ReflectBad) → the_ok done ≡ Err why → ⊥
no_err done why e = cc

-- a cause that isn't out of memory is told as it is
cause_back : (why : Refused) → bad_of why ≢ bad.NoMemory → cause_of (bad_of why) ≡ why
cause_back cause.Unchanged not = refl
cause_back cause.Empty not = refl
cause_back (cause.PrefixTaken site) not = refl
cause_back cause.NoRouteThere not = refl
cause_back cause.RoutesFull not = refl
cause_back cause.TargetsFull not = refl
cause_back cause.LabelsSpent not = refl
cause_back cause.NetFull not = refl
cause_back cause.StillReads not = absurd (not refl)
cause_back cause.TooManySteps not = absurd (not refl)
cause_back cause.NoMemory not = absurd (not refl)

-- what a step is answered after these
abbrev pub Answered : Network → List ℕ → List Step → ReflectNow → ReflectNow → Step → Done → Type 0
Answered topology reflectors steps old new done result =
    (IfSome (refusal topology (world_of topology reflectors steps) done) (λ why. (result ≡ Err (bad_of why)) × (new ≡ old)))
    × (OnOk result (IsRun topology reflectors (steps ++ done ∷ []) new))
    × (refusal topology (world_of topology reflectors steps) done ≡ None → IfErr result (λ why. why ≡ bad.NoMemory))

module _ (topology : Network) (reflectors : List ℕ) (run : ReflectRun) (old new : ReflectNow) (number : ℕ) (done : Step)
    (at : IsAt topology reflectors run old) where
  abbrev the_line : ReflectLine
  the_line = record { number = number; command = command.Do done }

  pub below : length run.steps ≢ most_steps → length run.steps < most_steps
  below apart = grind (arith, apart, at.few)

  pub one_more : length run.steps < most_steps → IsRun topology reflectors (run.steps ++ done ∷ []) new →
      IsAt topology reflectors (record run { steps = run.steps ++ done ∷ [] }) new
  one_more h stands = record { stands = stands; goes_on = at.goes_on; few = let n = length-append run.steps (done ∷ []) in omega (arith, n, h) }

  abbrev Goes : ReflectRun → Played Refused → Type 0
  Goes after how = Follows topology reflectors after run the_line how new

  done_full : length run.steps ≡ most_steps → Goes (stepped run done) played.TooManySteps
  done_full e = subst (λ r. Goes r played.TooManySteps) (sym (full run done e)) (record { stands = refl; told = sym (append-nil run.notes); shows = tt })

  done_all : length run.steps ≢ most_steps → IsRun topology reflectors (run.steps ++ done ∷ []) new → Goes (stepped run done) played.All
  done_all apart stands =
      subst (λ r. Goes r played.All) (sym (room run done (below apart)))
      (record { stands = one_more (below apart) stands; told = sym (append-nil run.notes); shows = tt })

  by_step : (how : Played Refused) → IsRun topology reflectors (run.steps ++ done ∷ []) new → (b : Bool) → (length run.steps == most_steps) ≡ b →
      how ≡ (if b then played.TooManySteps else played.All) → Goes (stepped run done) how
  by_step how stands true is same = subst (Goes (stepped run done)) (sym same) (done_full (same_numbers (length run.steps) most_steps is))
  by_step how stands false is same = subst (Goes (stepped run done)) (sym same) (done_all (other_numbers (length run.steps) most_steps is) stands)

  refused_by : (why : Refused) → new ≡ old → Goes (tried run number done (Some why)) (played.Refused why)
  refused_by why e = record {
    stands = record { stands = subst (IsRun topology reflectors run.steps) (sym e) at.stands; goes_on = at.goes_on; few = at.few };
    told = refl;
    shows = tt;
  }

  pub step_follows : (result : Done) (how : Played Refused) → Answered topology reflectors run.steps old new done result →
      IsAnswered (length run.steps) result how →
      Goes (tried run number done (refusal topology (world_of topology reflectors run.steps) done)) how
  step_follows result how answered is = by (refusal topology (world_of topology reflectors run.steps) done) refl result answered is
    where
      by : (o : Option Refused) → refusal topology (world_of topology reflectors run.steps) done ≡ o → (r : Done) →
          Answered topology reflectors run.steps old new done r → IsAnswered (length run.steps) r how → Goes (tried run number done o) how
      by None e (Ok ok) answered is = by_step how answered.1 (length run.steps == most_steps) refl is
      by None e (Err why) answered is = absurd (is.1 (answered.2 e))
      by (Some cause) e (Ok ok) answered is =
          absurd (no_err ok (bad_of cause) (subst (λ o. IfSome o (λ why. (the_ok ok ≡ Err (bad_of why)) × (new ≡ old))) e answered.0).0)
      by (Some cause) e (Err why) answered is =
          let both = subst (λ o. IfSome o (λ w. (the_err why ≡ Err (bad_of w)) × (new ≡ old))) e answered.0 in
          let same : why ≡ bad_of cause = same_err why (bad_of cause) both.0 in
          let not : bad_of cause ≢ bad.NoMemory = subst (λ w. w ≢ bad.NoMemory) same is.1 in
          let told : how ≡ played.Refused cause = is.0 ∙ ap (λ w. played.Refused (cause_of w)) same ∙ ap played.Refused (cause_back cause not) in
          subst (Goes (tried run number done (Some cause))) (sym told) (refused_by cause both.1)

-- what is asked for is done
abbrev pub DoesStep : Step → ReflectNow → ReflectNow → Played Refused → Type 0
DoesStep done old new how =
    (topology : Network) (reflectors : List ℕ) (run : ReflectRun) (number : ℕ) → IsAt topology reflectors run old → takes topology reflectors done ≡ true →
    Follows topology reflectors (asked topology reflectors run number (command.Do done)) run (record { number = number; command = command.Do done }) how new

pub step_done : (result : Result (Played Refused) AllocError) (answer : Done) (old new : ReflectNow) (done : Step) (steps : ℕ) →
    ((topology : Network) (reflectors : List ℕ) (before : List Step) → IsRun topology reflectors before old → takes topology reflectors done ≡ true →
    Answered topology reflectors before old new done answer) →
    steps ≡ old.done → IfOk result (λ how. IsAnswered steps answer how) → IfOk result (DoesStep done old new)
step_done (Err none) answer old new done steps answered same h = tt
step_done (Ok how) answer old new done steps answered same h = λ topology reflectors run number at fits.
    step_follows topology reflectors run old new number done at answer how (answered topology reflectors run.steps at.stands fits)
    (subst (λ n. IsAnswered n answer how) (same ∙ at.stands.stands.1) h)

-- a line that asks for it
pub line_follows : (result : Result (Played Refused) AllocError) (line : ReflectLine) (old new : ReflectNow) (done : Step) → line.command ≡ command.Do done →
    IfOk result (DoesStep done old new) →
    IfOk result (λ how. (topology : Network) (reflectors : List ℕ) (run : ReflectRun) → IsAt topology reflectors run old →
    command_fits topology reflectors line.command ≡ true → Follows topology reflectors (after_line topology reflectors run line) run line how new)
line_follows (Err none) line old new done is h = tt
line_follows (Ok how) line old new done is h = λ topology reflectors run at fits.
    subst (λ x. Follows topology reflectors (asked topology reflectors run line.number x) run (record { number = line.number; command = x }) how new) (sym is)
    (h topology reflectors run line.number at (subst (λ x. command_fits topology reflectors x ≡ true) is fits))

-- a line that drains tells nothing
pub drain_follows : (topology : Network) (reflectors : List ℕ) (after run : ReflectRun) (number : ℕ) (most : Option ℕ) (how : Played Refused)
    (now : ReflectNow) →
    IsDrained topology reflectors after run how now → Follows topology reflectors after run (record { number = number; command = command.Drain most }) how now
drain_follows topology reflectors after run number most played.All now is = record { stands = is.0; told = is.1 ∙ sym (append-nil run.notes); shows = tt }
drain_follows topology reflectors after run number most (played.Refused why) now is = absurd is
drain_follows topology reflectors after run number most played.TooManySteps now is = record {
  stands = is.0;
  told = is.1
      ∙ sym (append-nil run.notes);
  shows = tt;
}

pub line_drains : (result : Result (Played Refused) AllocError) (line : ReflectLine) (old new : ReflectNow) (most : Option ℕ) (turns : ℕ) →
    line.command ≡ command.Drain most →
    turns ≡ most_of most →
    IfOk result (λ how. (topology : Network) (reflectors : List ℕ) (run : ReflectRun) → IsAt topology reflectors run old →
    IsDrained topology reflectors (drain_for turns topology reflectors run) run how new) →
    IfOk result (λ how. (topology : Network) (reflectors : List ℕ) (run : ReflectRun) → IsAt topology reflectors run old →
    command_fits topology reflectors line.command ≡ true → Follows topology reflectors (after_line topology reflectors run line) run line how new)
line_drains (Err none) line old new most turns is so h = tt
line_drains (Ok how) line old new most turns is so h = λ topology reflectors run at fits.
    subst (λ x. Follows topology reflectors (asked topology reflectors run line.number x) run (record { number = line.number; command = x }) how new) (sym is)
    (drain_follows topology reflectors (drain_for (most_of most) topology reflectors run) run line.number most how new
    (subst (λ n. IsDrained topology reflectors (drain_for n topology reflectors run) run how new) so (h topology reflectors run at)))

-- a line that shows a table changes nothing
pub show_follows : (topology : Network) (reflectors : List ℕ) (run : ReflectRun) (number : ℕ) (vrf : VrfNo) (now : ReflectNow) →
    IsAt topology reflectors run now →
    Follows topology reflectors (asked topology reflectors run number (command.Show vrf)) run (record { number = number; command = command.Show vrf })
    played.All now
show_follows topology reflectors run number vrf now at = record {
  stands = record { stands = at.stands; goes_on = at.goes_on; few = at.few };
  told = refl;
  shows = at.stands;
}

pub line_shows : (line : ReflectLine) (now : ReflectNow) (vrf : VrfNo) → line.command ≡ command.Show vrf →
    (topology : Network) (reflectors : List ℕ) (run : ReflectRun) → IsAt topology reflectors run now → command_fits topology reflectors line.command ≡ true →
    Follows topology reflectors (after_line topology reflectors run line) run line played.All now
line_shows line now vrf is topology reflectors run at fits =
    subst (λ x. Follows topology reflectors (asked topology reflectors run line.number x) run (record { number = line.number; command = x }) played.All now)
    (sym is)
    (show_follows topology reflectors run line.number vrf now at)

-- 3. A drain, turn by turn

-- a turn more is left while there are fewer than all
pub turn_more : (most turn : ℕ) → turn < most → most - turn ≡ suc (most - (turn + 1))
turn_more most turn h = omega (arith, h)

pub none_left : (most turn : ℕ) → most ≤ turn → most - turn ≡ 0
none_left most turn h = omega (arith, h)

module _ (topology : Network) (reflectors : List ℕ) where
  abbrev drains : ℕ → ReflectRun → ReflectRun
  drains count run = drain_for count topology reflectors run

  -- after some turns the run has come to another, from which so many turns lead to the same end
  pub record ComesTo (run : ReflectRun) (all left : ℕ) (now : ReflectNow) : Type 0 where
    pub later : ReflectRun
    pub at : IsAt topology reflectors later now
    pub same_end : drain_for all topology reflectors run ≡ drain_for left topology reflectors later
    pub told : later.notes ≡ run.notes

  pub begins : (run : ReflectRun) (all : ℕ) (now : ReflectNow) → IsAt topology reflectors run now → ComesTo run all (all - 0) now
  begins run all now at =
      let whole : all ≡ all - 0 = omega arith in
      subst (λ n. ComesTo run all n now) whole (record { later = run; at = at; same_end = refl; told = refl })

  module _ (run : ReflectRun) (all left : ℕ) (now : ReflectNow) where
    -- none flies: it is at its end
    pub ends_quiet : (come : ComesTo run all left now) → next_hearing topology reflectors come.later ≡ None →
        IsDrained topology reflectors (drain_for all topology reflectors run) run played.All now
    ends_quiet come quiet =
        subst (λ r. IsAt topology reflectors r now × (r.notes ≡ run.notes)) (sym (come.same_end ∙ at_end left)) (come.at, come.told)
      where
        at_end : (n : ℕ) → drains n come.later ≡ come.later
        at_end zero = refl
        at_end (suc n) = ap (λ o. drained_by (λ later. drains n later) come.later o) quiet

  -- no turn is left
  pub ends_by : (run : ReflectRun) (all left : ℕ) (now : ReflectNow) → left ≡ 0 → ComesTo run all left now →
      IsDrained topology reflectors (drain_for all topology reflectors run) run played.All now
  ends_by run all left now none come =
      subst (λ r. IsAt topology reflectors r now × (r.notes ≡ run.notes)) (sym (come.same_end ∙ ap (λ n. drains n come.later) none)) (come.at, come.told)

  module _ (run : ReflectRun) (all left : ℕ) (now new : ReflectNow) (hearing : Step) (come : ComesTo run all (suc left) now)
      (flies : next_hearing topology reflectors come.later ≡ Some hearing) where
    goes_to : (after : ReflectRun) → stepped come.later hearing ≡ after →
        drain_for all topology reflectors run ≡ unless_stopped after (λ later. drains left later)
    goes_to after e =
        come.same_end ∙ ap (λ o. drained_by (λ later. drains left later) come.later o) flies ∙ ap (λ r. unless_stopped r (λ later. drains left later)) e

    -- one flies: where steps are full, the run stops
    pub ends_full : length come.later.steps ≡ most_steps → IsDrained topology reflectors (drain_for all topology reflectors run) run played.TooManySteps now
    ends_full is_full =
        subst (λ r. (r.is_stopped ≡ true) × (r.notes ≡ run.notes)) (sym (goes_to (record come.later { is_stopped = true }) (full come.later hearing is_full)))
        (refl, come.told)

    -- and else it is received
    pub hears : length come.later.steps ≢ most_steps → IsRun topology reflectors (come.later.steps ++ hearing ∷ []) new → ComesTo run all left new
    hears apart stands =
        let few : length come.later.steps < most_steps = below topology reflectors come.later now new 0 hearing come.at apart in
        let next : ReflectRun = record come.later { steps = come.later.steps ++ hearing ∷ [] } in
        record {
          later = next;
          at = one_more topology reflectors come.later now new 0 hearing come.at few stands;
          same_end = goes_to next (room come.later hearing few) ∙ ap (λ b. cond b next (drains left next)) come.at.goes_on;
          told = come.told;
        }

-- 4. What is told later stands behind what was sent before

pub record TellsMore (before after : ReflectRun) : Type 0 where
  pub more : List Note
  pub is : after.notes ≡ before.notes ++ more

pub as_before : (before after : ReflectRun) → after.notes ≡ before.notes → TellsMore before after
as_before before after e = record { more = []; is = e ∙ sym (append-nil before.notes) }

both_more : (one two three : ReflectRun) → TellsMore one two → TellsMore two three → TellsMore one three
both_more one two three f g = record {
  more = f.more ++ g.more;
  is = g.is ∙ ap (λ xs. xs ++ g.more) f.is ∙ append_assoc one.notes f.more g.more;
}

stepped_tells : (run : ReflectRun) (done : Step) → (stepped run done).notes ≡ run.notes
stepped_tells run done = by (nat_le most_steps (length run.steps))
  where
    by : (b : Bool) → (cond b (record run { is_stopped = true }) (record run { steps = run.steps ++ done ∷ [] })).notes ≡ run.notes
    by true = refl
    by false = refl

unless : (run : ReflectRun) (on : ReflectRun → ReflectRun) (b : Bool) → (on run).notes ≡ run.notes → (cond b run (on run)).notes ≡ run.notes
unless run on true e = refl
unless run on false e = e

drained_tells : (run : ReflectRun) (on : ReflectRun → ReflectRun) → ((r : ReflectRun) → (on r).notes ≡ r.notes) → (hearing : Option Step) →
    (drained_by on run hearing).notes ≡ run.notes
drained_tells run on same None = refl
drained_tells run on same (Some hearing) =
    unless (stepped run hearing) on (stepped run hearing).is_stopped (same (stepped run hearing)) ∙ stepped_tells run hearing

module _ (topology : Network) (reflectors : List ℕ) where
  drains_tell : (count : ℕ) (run : ReflectRun) → (drain_for count topology reflectors run).notes ≡ run.notes
  drains_tell zero run = refl
  drains_tell (suc count) run =
      drained_tells run (λ later. drain_for count topology reflectors later) (λ r. drains_tell count r) (next_hearing topology reflectors run)

  tried_tells : (run : ReflectRun) (line : ℕ) (done : Step) (o : Option Refused) → TellsMore run (tried run line done o)
  tried_tells run line done None = as_before run (stepped run done) (stepped_tells run done)
  tried_tells run line done (Some cause) = record { more = Refusal line cause ∷ []; is = refl }

  asked_tells : (run : ReflectRun) (number : ℕ) (wanted : ReflectCommand) → TellsMore run (asked topology reflectors run number wanted)
  asked_tells run number (command.Do done) = tried_tells run number done (refusal topology (world_of topology reflectors run.steps) done)
  asked_tells run number (command.Drain most) = as_before run (drain_for (most_of most) topology reflectors run) (drains_tell (most_of most) run)
  asked_tells run number (command.Show vrf) = record { more = Table vrf.0 run.steps ∷ []; is = refl }

  pub lines_tell : (lines : List ReflectLine) (run : ReflectRun) → TellsMore run (run_from topology reflectors run lines)
  lines_tell [] run = as_before run run refl
  lines_tell (line ∷ lines) run =
      by (after_line topology reflectors run line) (asked_tells run line.number line.command) (λ r. lines_tell lines r)
      (after_line topology reflectors run line).is_stopped
    where
      by : (r : ReflectRun) → TellsMore run r → ((x : ReflectRun) → TellsMore x (run_from topology reflectors x lines)) → (b : Bool) →
          TellsMore run (cond b r (run_from topology reflectors r lines))
      by r first rest true = first
      by r first rest false = both_more run r (run_from topology reflectors r lines) first (rest r)

  -- 5. A line behind others

  unless_by : (r : ReflectRun) (b : Bool) → cond b r r ≡ r
  unless_by r true = refl
  unless_by r false = refl

  pub run_on : (xs ys : List ReflectLine) (run : ReflectRun) → (run_from topology reflectors run xs).is_stopped ≡ false →
      run_from topology reflectors run (xs ++ ys) ≡ run_from topology reflectors (run_from topology reflectors run xs) ys
  run_on [] ys run goes = refl
  run_on (x ∷ xs) ys run goes = by (after_line topology reflectors run x) (λ r g. run_on xs ys r g) (after_line topology reflectors run x).is_stopped refl goes
    where
      by : (r : ReflectRun) → ((z : ReflectRun) → (run_from topology reflectors z xs).is_stopped ≡ false →
          run_from topology reflectors z (xs ++ ys) ≡ run_from topology reflectors (run_from topology reflectors z xs) ys) →
          (b : Bool) → r.is_stopped ≡ b → (cond b r (run_from topology reflectors r xs)).is_stopped ≡ false →
          cond b r (run_from topology reflectors r (xs ++ ys)) ≡ run_from topology reflectors (cond b r (run_from topology reflectors r xs)) ys
      by r rest true e g = let wrong : true ≡ false = sym e ∙ g in cc
      by r rest false e g = rest r g

  abbrev course : List ReflectLine → ReflectRun
  course lines = run_of topology reflectors lines

  -- the course of the lines before is gone on with
  pub course_on : (front back : List ReflectLine) → (course front).is_stopped ≡ false →
      course (front ++ back) ≡ run_from topology reflectors (course front) back
  course_on front back goes = run_on front back first_run goes

  pub course_next : (front : List ReflectLine) (line : ReflectLine) → (course front).is_stopped ≡ false →
      course (front ++ line ∷ []) ≡ after_line topology reflectors (course front) line
  course_next front line goes =
      course_on front (line ∷ []) goes
      ∙ unless_by (after_line topology reflectors (course front) line) (after_line topology reflectors (course front) line).is_stopped

  pub course_at : (lines : List ReflectLine) (i : ℕ) (d : ReflectLine) → i < length lines → (course (take i lines)).is_stopped ≡ false →
      course (take (i + 1) lines) ≡ after_line topology reflectors (course (take i lines)) (get_or lines i d)
  course_at lines i d below goes = ap course (take_more lines i d below) ∙ course_next (take i lines) (get_or lines i d) goes

  -- all lines from one on
  pub course_all : (lines : List ReflectLine) (i : ℕ) → (course (take i lines)).is_stopped ≡ false →
      course lines ≡ run_from topology reflectors (course (take i lines)) (drop i lines)
  course_all lines i goes = ap course (sym (take-append-drop i lines)) ∙ course_on (take i lines) (drop i lines) goes

  -- where its first lines are all that are played
  pub course_cut : (lines : List ReflectLine) (i : ℕ) (d : ReflectLine) → i < length lines → (course (take i lines)).is_stopped ≡ false →
      (after_line topology reflectors (course (take i lines)) (get_or lines i d)).is_stopped ≡ true →
      course lines ≡ after_line topology reflectors (course (take i lines)) (get_or lines i d)
  course_cut lines i d below goes stops =
      course_all lines i goes
      ∙ ap (λ rest. run_from topology reflectors (course (take i lines)) rest) (drop_more lines i d below)
      ∙ ap (λ b. cond b (after_line topology reflectors (course (take i lines)) (get_or lines i d))
      (run_from topology reflectors (after_line topology reflectors (course (take i lines)) (get_or lines i d)) (drop (i + 1) lines))) stops
