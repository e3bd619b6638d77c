-- How a run of a flood goes on, line by line.
use Rattle.std.proofs.Common.{ℕ, zero, suc, ◌≡◌, ◌≢◌, ◌+◌, ◌-◌, ◌<◌, ◌≤◌, ◌==◌, inl, Bool, true, false, cond, List, [], ◌∷◌, ◌++◌, length, take, drop, get_or}
use Rattle.std.proofs.Common.{Option, Some, None, Result, Ok, Err, refl, arith, sym, ◌∙◌, ap, subst, append_assoc}
use Rattle.std.specs.Prelude.{nat_le, is_none, ◌&&◌, option_map, if◌then◌else◌, slice_get, IfSome, IsSome, OnOk, IfOk, IfErr}
use Rattle.std.proofs.lemmas.List.{append-nil, take_more, take-append-drop, map-append, drop_more}
use Rattle.mn_base.proofs.Bools.{and_on, test_same, at_most_is, not_at_most, same_numbers, other_numbers}
use Rattle.mn_base.proofs.Members.{In, contained_in}
use Rattle.mn_base.specs.Limits.{most_steps}
use Rattle.mn_base.specs.declared.numbers.LinkNo.{LinkNo}
use Rattle.mn_wiring.specs.declared.links.Dir.{Dir}
use Rattle.mn_wiring.specs.declared.links.Dir.TheVariants.{Forth, Back}
use Rattle.mn_wiring.specs.Wiring.{Wiring}
use Rattle.mn_topo.specs.Network.{Network, wiring_of}
use Rattle.std.specs.declared.alloc.AllocError.{AllocError}
use Rattle.mn_flood_laws.specs.Laws.{IsFlood}
use Rattle.mn_flood_laws.specs.Flood.{FloodWorld, FloodEvent, Sent, Hear, flies_on, first_on, flood_after}
use Rattle.mn_flood_laws.specs.Course.{FloodRefused, FloodRun, RefusedLine, flood_refusal, stepped, tried, unless_stopped, drained_by, drain_for, every_hearing}
use Rattle.mn_flood_laws.specs.Course.{with_line, run_from}
use Rattle.mn_flood_laws.specs.Course as course
use Rattle.mn_flood.specs.declared.refusal.FloodBad.{FloodBad}
use Rattle.mn_flood.specs.declared.refusal.FloodBad.TheVariants as bad
use Rattle.mn_flood.specs.Queue.{way_of}
use Rattle.mn_flood.specs.Floods.{FloodNow, happened, bad_of, refusal_of}
use Rattle.mn_flood_run.specs.declared.command.FloodLine.{FloodLine}
use Rattle.mn_answer.specs.declared.played.Played.{Played}
use Rattle.mn_answer.specs.declared.played.Played.TheVariants as played
use Rattle.mn_flood_run.specs.Language.{ordered, order_of, orders_of}
use Rattle.mn_flood_run.specs.Report.{course_of}
use Rattle.mn_flood_run.specs.Playing.{IsAt, Follows, IsRefusedBy, IsAnswered}

-- 1. A step more, or none where there are as many as there may be

pub full : (wiring : Wiring) (run : FloodRun) (event : FloodEvent) → run.steps ≡ most_steps → stepped wiring run event ≡ record run { is_stopped = true }
full wiring run event e =
    ap (λ b. cond b (record run { is_stopped = true }) (record run { world = flood_after wiring run.world event; steps = run.steps + 1 }))
    (at_most_is most_steps run.steps (omega (arith, e)))

pub room : (wiring : Wiring) (run : FloodRun) (event : FloodEvent) → run.steps < most_steps →
    stepped wiring run event ≡ record run { world = flood_after wiring run.world event; steps = run.steps + 1 }
room wiring run event h =
    ap (λ b. cond b (record run { is_stopped = true }) (record run { world = flood_after wiring run.world event; steps = run.steps + 1 }))
    (not_at_most most_steps run.steps h)

-- 2. An event of a line, by what the flood answered

abbrev pub Done : Type 0
Done = Result (Unit {0}) FloodBad

abbrev the_ok : Unit {0} → Done
the_ok done = Ok done

abbrev the_err : FloodBad → Done
the_err why = Err why

same_err : (why other : FloodBad) → the_err why ≡ Err other → why ≡ other
same_err why other e = cc

no_err : (done : Unit {0}) (why : FloodBad) → the_ok done ≡ Err why → ⊥
no_err done why e = cc

-- what the flood answers of an event
abbrev pub Answered : FloodNow → FloodNow → FloodEvent → Done → Type 0
Answered old new event result =
    (IfSome (refusal_of old event) (λ why. result ≡ Err why)) × (IsSome (refusal_of old event) → new ≡ old) × (OnOk result (new ≡ happened old event))
    × (refusal_of old event ≡ None → IfErr result (λ why. why ≡ bad.NoMemory))

module _ (run : FloodRun) (old new : FloodNow) (number : ℕ) (event : FloodEvent) (at : IsAt run old) where
  pub refusal_is : refusal_of old event ≡ option_map bad_of (flood_refusal run.world event)
  refusal_is =
      ap (λ b. cond b (Some bad.NoMemory) (option_map bad_of (flood_refusal old.world event))) at.works
      ∙ ap (λ w. option_map bad_of (flood_refusal w event)) at.world

  -- it was done
  pub done_at : run.steps < most_steps → new ≡ happened old event →
      IsAt (record run { world = flood_after old.wiring run.world event; steps = run.steps + 1 }) new
  done_at h e = record {
    world = ap (λ (n : FloodNow). n.world) e ∙ ap (λ w. flood_after old.wiring w event) at.world;
    steps = ap (λ (n : FloodNow). n.done) e ∙ ap (λ n. n + 1) at.steps;
    works = ap (λ (n : FloodNow). n.failed) e ∙ at.works;
    goes_on = at.goes_on;
    few = omega (arith, h);
  }

  pub below : old.done ≢ most_steps → run.steps < most_steps
  below apart = grind (arith, apart, at.steps, at.few)

  done_full : flood_refusal run.world event ≡ None → old.done ≡ most_steps →
      Follows (tried old.wiring run number event (flood_refusal run.world event)) run number played.TooManySteps new
  done_full none e =
      subst (λ r. (r.is_stopped ≡ true) × (r.refused ≡ run.refused))
      (sym (ap (tried old.wiring run number event) none ∙ full old.wiring run event (sym at.steps ∙ e))) (refl, refl)

  done_all : flood_refusal run.world event ≡ None → old.done ≢ most_steps → new ≡ happened old event →
      Follows (tried old.wiring run number event (flood_refusal run.world event)) run number played.All new
  done_all none apart e =
      subst (λ r. IsAt r new × (r.refused ≡ run.refused))
      (sym (ap (tried old.wiring run number event) none ∙ room old.wiring run event (below apart))) (done_at (below apart) e, refl)

  refused_by : (cause : FloodRefused) → flood_refusal run.world event ≡ Some cause → new ≡ old →
      Follows (tried old.wiring run number event (flood_refusal run.world event)) run number (played.Refused (bad_of cause)) new
  refused_by cause some e =
      subst (λ r. IsAt r new × IsRefusedBy r run number (bad_of cause)) (sym (ap (tried old.wiring run number event) some)) (
        record {
          world = ap (λ (n : FloodNow). n.world) e ∙ at.world;
          steps = ap (λ (n : FloodNow). n.done) e ∙ at.steps;
          works = ap (λ (n : FloodNow). n.failed) e ∙ at.works;
          goes_on = at.goes_on;
          few = at.few;
        },
        record { cause = cause; is = refl; refused = refl },
      )

  by_step : (how : Played FloodBad) → flood_refusal run.world event ≡ None → new ≡ happened old event → (b : Bool) → (old.done == most_steps) ≡ b →
      how ≡ (if b then played.TooManySteps else played.All) → Follows (tried old.wiring run number event (flood_refusal run.world event)) run number how new
  by_step how none e true is same =
      subst (λ h. Follows (tried old.wiring run number event (flood_refusal run.world event)) run number h new) (sym same)
      (done_full none (same_numbers old.done most_steps is))
  by_step how none e false is same =
      subst (λ h. Follows (tried old.wiring run number event (flood_refusal run.world event)) run number h new) (sym same)
      (done_all none (other_numbers old.done most_steps is) e)

  pub event_follows : (result : Done) (how : Played FloodBad) → Answered old new event result → IsAnswered old.done result how →
      Follows (tried old.wiring run number event (flood_refusal run.world event)) run number how new
  event_follows result how answered is = by (flood_refusal run.world event) refl result answered is
    where
      by : (o : Option FloodRefused) → flood_refusal run.world event ≡ o → (r : Done) → Answered old new event r → IsAnswered old.done r how →
          Follows (tried old.wiring run number event (flood_refusal run.world event)) run number how new
      by None e (Ok done) answered is = by_step how e answered.2 (old.done == most_steps) refl is
      by None e (Err why) answered is = absurd (is.1 (answered.3 (refusal_is ∙ ap (option_map bad_of) e)))
      by (Some cause) e (Ok done) answered is =
          absurd (no_err done (bad_of cause) (subst (λ o. IfSome o (λ why. the_ok done ≡ Err why)) (refusal_is ∙ ap (option_map bad_of) e) answered.0))
      by (Some cause) e (Err why) answered is =
          let same : why ≡ bad_of cause = same_err why (bad_of cause) (subst (λ o. IfSome o (λ w. the_err why ≡ Err w)) (refusal_is
          ∙ ap (option_map bad_of) e) answered.0) in
          let stays : new ≡ old = answered.1 (subst (λ o. IsSome o) (sym (refusal_is ∙ ap (option_map bad_of) e)) refl) in
          subst (λ h. Follows (tried old.wiring run number event (flood_refusal run.world event)) run number h new) (sym (is.0 ∙ ap played.Refused same))
          (refused_by cause e stays)

-- a line that does an event
pub line_follows : (result : Result (Played FloodBad) AllocError) (done : Done) (line : FloodLine) (old new : FloodNow) (event : FloodEvent) (steps : ℕ) →
    ordered line.command ≡ course.Do event →
    Answered old new event done → steps ≡ old.done → IfOk result (λ how. IsAnswered steps done how) →
    IfOk result (λ how. (run : FloodRun) → IsAt run old → Follows (with_line old.wiring run (order_of line)) run line.number how new)
line_follows (Err bad) done line old new event steps is answered same how = tt
line_follows (Ok how) done line old new event steps is answered same h = λ run at.
    subst (λ o. Follows (with_line old.wiring run (record { number = line.number; command = o })) run line.number how new) (sym is)
    (event_follows run old new line.number event at done how answered (subst (λ n. IsAnswered n done how) same h))

-- a line that drains
pub drain_follows : (result : Result (Played FloodBad) AllocError) (line : FloodLine) (old new : FloodNow) → ordered line.command ≡ course.Drain →
    IfOk result (λ how. (run : FloodRun) (number : ℕ) → IsAt run old → Follows (drain_for every_hearing old.wiring run) run number how new) →
    IfOk result (λ how. (run : FloodRun) → IsAt run old → Follows (with_line old.wiring run (order_of line)) run line.number how new)
drain_follows (Err bad) line old new is h = tt
drain_follows (Ok how) line old new is h = λ run at.
    subst (λ o. Follows (with_line old.wiring run (record { number = line.number; command = o })) run line.number how new) (sym is) (h run line.number at)

-- 3. A drain, turn by turn

pub none_first : (flying : List Sent) → option_map way_of (slice_get flying 0) ≡ None → flying ≡ []
none_first [] e = refl
none_first (sent ∷ more) e = cc

-- what was sent first flies that way
pub record IsFirst (flying : List Sent) (way : LinkNo × Dir) : Type 0 where
  pub sent : Sent
  pub first : slice_get flying 0 ≡ Some sent
  pub same : way_of sent ≡ way

pub some_first : (flying : List Sent) (way : LinkNo × Dir) → option_map way_of (slice_get flying 0) ≡ Some way → IsFirst flying way
some_first [] way e = cc
some_first (sent ∷ more) way e = record { sent = sent; first = refl; same = cc }

pub first_is_in : (flying : List Sent) (sent : Sent) → slice_get flying 0 ≡ Some sent → In flying sent
first_is_in [] sent e = cc
first_is_in (first ∷ more) sent e = let same : first ≡ sent = cc in inl same

-- it is of a link
pub first_within : (wiring : Wiring) (world : FloodWorld) (way : LinkNo × Dir) → IsFlood wiring world → IsFirst world.flying way → way.0.0 < length wiring.ends
first_within wiring world way flood first =
    let within : first.sent.link < length wiring.ends =
    (flood.flights first.sent (contained_in world.flying first.sent (first_is_in world.flying first.sent first.first))).link in
    let same : first.sent.link ≡ way.0.0 = ap (λ (w : LinkNo × Dir). w.0.0) first.same in
    omega (arith, within, same)

-- a turn more is left while there are fewer than all
pub turn_more : (turn : ℕ) → turn < 4000001 → every_hearing - turn ≡ suc (every_hearing - (turn + 1))
unfolding every_hearing
turn_more turn h = omega (arith, h)

-- it flies the way that it was sent
on_its_way : (sent : Sent) → flies_on sent.link sent.dir sent ≡ true
on_its_way sent = by sent.dir refl
  where
    by : (dir : Dir) → sent.dir ≡ dir → flies_on sent.link dir sent ≡ true
    by Forth e = and_on (sent.link == sent.link) _ (test_same sent.link sent.link refl) (ap (λ (d : Dir). elim d [ Forth ↦ true | Back ↦ false ]) e)
    by Back e = and_on (sent.link == sent.link) _ (test_same sent.link sent.link refl) (ap (λ (d : Dir). elim d [ Forth ↦ false | Back ↦ true ]) e)

-- and nothing refuses that it is received
pub unrefused : (now : FloodNow) (sent : Sent) → now.failed ≡ false → slice_get now.world.flying 0 ≡ Some sent →
    refusal_of now (Hear sent.link sent.dir) ≡ None
unrefused now sent works first =
    ap (λ b. cond b (Some bad.NoMemory) (option_map bad_of (flood_refusal now.world (Hear sent.link sent.dir)))) works
    ∙ ap (option_map bad_of) (there now.world.flying first)
  where
    there : (flying : List Sent) → slice_get flying 0 ≡ Some sent →
        cond (is_none (first_on sent.link sent.dir flying)) (Some course.Empty) None ≡ None
    there [] e = cc
    there (x ∷ more) e =
        let same : x ≡ sent = cc in
        subst (λ (s : Sent). cond (is_none (first_on s.link s.dir (x ∷ more))) (Some course.Empty) None ≡ None) same
        (ap (λ b. cond (is_none (cond b (Some x) (first_on x.link x.dir more))) (Some course.Empty) None) (on_its_way x))

-- after some turns the run has come to another, from which so many turns lead to the same end
pub record ComesTo (wiring : Wiring) (run : FloodRun) (all left : ℕ) (now : FloodNow) : Type 0 where
  pub later : FloodRun
  pub at : IsAt later now
  pub same_end : drain_for all wiring run ≡ drain_for left wiring later
  pub refused : later.refused ≡ run.refused

pub begins : (wiring : Wiring) (run : FloodRun) (now : FloodNow) → IsAt run now → ComesTo wiring run every_hearing (every_hearing - 0) now
begins wiring run now at =
    let whole : every_hearing ≡ every_hearing - 0 = omega arith in
    subst (λ n. ComesTo wiring run every_hearing n now) whole (record { later = run; at = at; same_end = refl; refused = refl })

-- none flies: it is at its end
pub ends_quiet : (wiring : Wiring) (run : FloodRun) (all left number : ℕ) (now : FloodNow) → ComesTo wiring run all left now → now.world.flying ≡ [] →
    Follows (drain_for all wiring run) run number played.All now
ends_quiet wiring run all left number now come quiet =
    subst (λ r. IsAt r now × (r.refused ≡ run.refused)) (sym (come.same_end ∙ at_end left)) (come.at, come.refused)
  where
    none : come.later.world.flying ≡ []
    none = sym (ap (λ (w : FloodWorld). w.flying) come.at.world) ∙ quiet

    at_end : (n : ℕ) → drain_for n wiring come.later ≡ come.later
    at_end zero = refl
    at_end (suc n) = ap (λ flying. drained_by wiring (λ r. drain_for n wiring r) come.later flying) none

-- no turn is left
none_left : (turn : ℕ) → 4000001 ≤ turn → every_hearing - turn ≡ 0
unfolding every_hearing
none_left turn past = omega (arith, past)

pub ends_by : (wiring : Wiring) (run : FloodRun) (all turn number : ℕ) (now : FloodNow) → 4000001 ≤ turn → ComesTo wiring run all (every_hearing - turn) now →
    Follows (drain_for all wiring run) run number played.All now
ends_by wiring run all turn number now past come =
    subst (λ r. IsAt r now × (r.refused ≡ run.refused)) (sym (come.same_end ∙ ap (λ n. drain_for n wiring come.later) (none_left turn past)))
    (come.at, come.refused)

-- one flies: where steps are full, the run stops
pub ends_full : (wiring : Wiring) (run : FloodRun) (all left number : ℕ) (now : FloodNow) (sent : Sent) → ComesTo wiring run all (suc left) now →
    slice_get now.world.flying 0 ≡ Some sent → now.done ≡ most_steps → Follows (drain_for all wiring run) run number played.TooManySteps now
ends_full wiring run all left number now sent come flies is_full = by come.later.world.flying refl
  where
    there : slice_get come.later.world.flying 0 ≡ Some sent
    there = ap (λ (w : FloodWorld). slice_get w.flying 0) (sym come.at.world) ∙ flies

    by : (flying : List Sent) → come.later.world.flying ≡ flying → Follows (drain_for all wiring run) run number played.TooManySteps now
    by [] e = let wrong : None ≡ Some sent = subst (λ xs. slice_get xs 0 ≡ Some sent) e there in cc
    by (first ∷ more) e =
        let stops : stepped wiring come.later (Hear first.link first.dir) ≡ record come.later { is_stopped = true } =
        full wiring come.later (Hear first.link first.dir) (sym come.at.steps ∙ is_full) in
        let ends : drain_for all wiring run ≡ record come.later { is_stopped = true } =
        come.same_end ∙ ap (drained_by wiring (λ r. drain_for left wiring r) come.later) e
        ∙ ap (λ r. unless_stopped r (λ later. drain_for left wiring later)) stops in
        subst (λ r. (r.is_stopped ≡ true) × (r.refused ≡ run.refused)) (sym ends) (refl, come.refused)

-- and else it is received
pub hears : (wiring : Wiring) (run : FloodRun) (all left : ℕ) (now new : FloodNow) (sent : Sent) → now.wiring ≡ wiring → ComesTo wiring run all (suc left) now →
    slice_get now.world.flying 0 ≡ Some sent → now.done ≢ most_steps → new ≡ happened now (Hear sent.link sent.dir) → ComesTo wiring run all left new
hears wiring run all left now new sent over come flies apart happens = by come.later.world.flying refl
  where
    there : slice_get come.later.world.flying 0 ≡ Some sent
    there = ap (λ (w : FloodWorld). slice_get w.flying 0) (sym come.at.world) ∙ flies

    by : (flying : List Sent) → come.later.world.flying ≡ flying → ComesTo wiring run all left new
    by [] e = let wrong : None ≡ Some sent = subst (λ xs. slice_get xs 0 ≡ Some sent) e there in cc
    by (first ∷ more) e =
        let found : Some first ≡ Some sent = subst (λ xs. slice_get xs 0 ≡ Some sent) e there in
        let same : first ≡ sent = cc in
        let event : FloodEvent = Hear sent.link sent.dir in
        let few : come.later.steps < most_steps = below come.later now new 0 event come.at apart in
        let next : FloodRun = record come.later { world = flood_after wiring come.later.world event; steps = come.later.steps + 1 } in
        let goes : stepped wiring come.later (Hear first.link first.dir) ≡ next =
        ap (λ (s : Sent). stepped wiring come.later (Hear s.link s.dir)) same ∙ room wiring come.later event few in
        record {
          later = next;
          at = subst (λ w. IsAt (record come.later { world = flood_after w come.later.world event; steps = come.later.steps + 1 }) new) over
              (done_at come.later now new 0 event come.at few happens);
          same_end = come.same_end ∙ ap (drained_by wiring (λ r. drain_for left wiring r) come.later) e
              ∙ ap (λ r. unless_stopped r (λ later. drain_for left wiring later)) goes
              ∙ ap (λ b. cond b next (drain_for left wiring next)) come.at.goes_on;
          refused = come.refused;
        }

-- 4. What is refused later stands behind what was refused before

pub record RefusesMore (before after : FloodRun) : Type 0 where
  pub more : List RefusedLine
  pub is : after.refused ≡ before.refused ++ more

pub as_before : (before after : FloodRun) → after.refused ≡ before.refused → RefusesMore before after
as_before before after e = record { more = []; is = e ∙ sym (append-nil before.refused) }

both_more : (one two three : FloodRun) → RefusesMore one two → RefusesMore two three → RefusesMore one three
both_more one two three f g = record {
  more = f.more ++ g.more;
  is = g.is ∙ ap (λ xs. xs ++ g.more) f.is ∙ append_assoc one.refused f.more g.more;
}

stepped_refuses : (wiring : Wiring) (run : FloodRun) (event : FloodEvent) → (stepped wiring run event).refused ≡ run.refused
stepped_refuses wiring run event = by (nat_le most_steps run.steps)
  where
    by : (b : Bool) → (cond b (record run { is_stopped = true }) (record run { world = flood_after wiring run.world event; steps = run.steps + 1 })).refused
        ≡ run.refused
    by true = refl
    by false = refl

unless : (run : FloodRun) (on : FloodRun → FloodRun) (b : Bool) → (on run).refused ≡ run.refused → (cond b run (on run)).refused ≡ run.refused
unless run on true e = refl
unless run on false e = e

drained_refuses : (wiring : Wiring) (run : FloodRun) (on : FloodRun → FloodRun) → ((r : FloodRun) → (on r).refused ≡ r.refused) → (flying : List Sent) →
    (drained_by wiring on run flying).refused ≡ run.refused
drained_refuses wiring run on same [] = refl
drained_refuses wiring run on same (sent ∷ more) =
    unless (stepped wiring run (Hear sent.link sent.dir)) on (stepped wiring run (Hear sent.link sent.dir)).is_stopped
    (same (stepped wiring run (Hear sent.link sent.dir)))
    ∙ stepped_refuses wiring run (Hear sent.link sent.dir)

drains_refuse : (count : ℕ) (wiring : Wiring) (run : FloodRun) → (drain_for count wiring run).refused ≡ run.refused
drains_refuse zero wiring run = refl
drains_refuse (suc count) wiring run = drained_refuses wiring run (λ later. drain_for count wiring later) (λ r. drains_refuse count wiring r) run.world.flying

tried_refuses : (wiring : Wiring) (run : FloodRun) (line : ℕ) (event : FloodEvent) (o : Option FloodRefused) → RefusesMore run (tried wiring run line event o)
tried_refuses wiring run line event None = as_before run (stepped wiring run event) (stepped_refuses wiring run event)
tried_refuses wiring run line event (Some cause) = record { more = record { line = line; cause = cause } ∷ []; is = refl }

line_refuses : (wiring : Wiring) (run : FloodRun) (number : ℕ) (command : course.FloodCommand) →
    RefusesMore run (with_line wiring run (record { number = number; command = command }))
line_refuses wiring run number (course.Do event) = tried_refuses wiring run number event (flood_refusal run.world event)
line_refuses wiring run number course.Drain = as_before run (drain_for course.every_hearing wiring run) (drains_refuse course.every_hearing wiring run)

pub lines_refuse : (wiring : Wiring) (lines : List course.FloodLine) (run : FloodRun) → RefusesMore run (run_from wiring run lines)
lines_refuse wiring [] run = as_before run run refl
lines_refuse wiring (line ∷ lines) run =
    by (with_line wiring run line) (line_refuses wiring run line.number line.command) (λ r. lines_refuse wiring lines r) (with_line wiring run line).is_stopped
  where
    by : (r : FloodRun) → RefusesMore run r → ((x : FloodRun) → RefusesMore x (run_from wiring x lines)) → (b : Bool) →
        RefusesMore run (cond b r (run_from wiring r lines))
    by r first rest true = first
    by r first rest false = both_more run r (run_from wiring r lines) first (rest r)

-- 5. A line behind others

unless_by : (r : FloodRun) (b : Bool) → cond b r r ≡ r
unless_by r true = refl
unless_by r false = refl

pub run_on : (wiring : Wiring) (xs ys : List course.FloodLine) (run : FloodRun) → (run_from wiring run xs).is_stopped ≡ false →
    run_from wiring run (xs ++ ys) ≡ run_from wiring (run_from wiring run xs) ys
run_on wiring [] ys run goes = refl
run_on wiring (x ∷ xs) ys run goes = by (with_line wiring run x) (λ r g. run_on wiring xs ys r g) (with_line wiring run x).is_stopped refl goes
  where
    by : (r : FloodRun) → ((z : FloodRun) → (run_from wiring z xs).is_stopped ≡ false →
        run_from wiring z (xs ++ ys) ≡ run_from wiring (run_from wiring z xs) ys) →
        (b : Bool) → r.is_stopped ≡ b → (cond b r (run_from wiring r xs)).is_stopped ≡ false →
        cond b r (run_from wiring r (xs ++ ys)) ≡ run_from wiring (cond b r (run_from wiring r xs)) ys
    by r rest true e g = let wrong : true ≡ false = sym e ∙ g in cc
    by r rest false e g = rest r g

module _ (topology : Network) where
  -- the course of the lines before is gone on with
  pub course_on : (front back : List FloodLine) → (course_of topology front).is_stopped ≡ false → course_of topology (front ++ back)
      ≡ run_from (wiring_of topology) (course_of topology front) (orders_of back)
  course_on front back goes =
      ap (λ orders. course.run_of (wiring_of topology) orders) (map-append order_of front back)
      ∙ run_on (wiring_of topology) (orders_of front) (orders_of back) (course.first_run (wiring_of topology)) goes

  pub course_next : (front : List FloodLine) (line : FloodLine) → (course_of topology front).is_stopped ≡ false →
      course_of topology (front ++ line ∷ []) ≡ with_line (wiring_of topology) (course_of topology front) (order_of line)
  course_next front line goes =
      course_on front (line ∷ []) goes
      ∙ unless_by (with_line (wiring_of topology) (course_of topology front) (order_of line))
      (with_line (wiring_of topology) (course_of topology front) (order_of line)).is_stopped

  pub course_at : (lines : List FloodLine) (i : ℕ) (d : FloodLine) → i < length lines → (course_of topology (take i lines)).is_stopped ≡ false →
      course_of topology (take (i + 1) lines) ≡ with_line (wiring_of topology) (course_of topology (take i lines)) (order_of (get_or lines i d))
  course_at lines i d below goes = ap (course_of topology) (take_more lines i d below) ∙ course_next (take i lines) (get_or lines i d) goes

  -- all lines from one on
  pub course_all : (lines : List FloodLine) (i : ℕ) → (course_of topology (take i lines)).is_stopped ≡ false →
      course_of topology lines ≡ run_from (wiring_of topology) (course_of topology (take i lines)) (orders_of (drop i lines))
  course_all lines i goes = ap (course_of topology) (sym (take-append-drop i lines)) ∙ course_on (take i lines) (drop i lines) goes

  -- where its first lines are all that are played
  pub course_cut : (lines : List FloodLine) (i : ℕ) (d : FloodLine) → i < length lines → (course_of topology (take i lines)).is_stopped ≡ false →
      (with_line (wiring_of topology) (course_of topology (take i lines)) (order_of (get_or lines i d))).is_stopped ≡ true →
      course_of topology lines ≡ with_line (wiring_of topology) (course_of topology (take i lines)) (order_of (get_or lines i d))
  course_cut lines i d below goes stops =
      course_all lines i goes
      ∙ ap (λ rest. run_from (wiring_of topology) (course_of topology (take i lines)) (orders_of rest)) (drop_more lines i d below)
      ∙ ap (λ b. cond b (with_line (wiring_of topology) (course_of topology (take i lines)) (order_of (get_or lines i d)))
      (run_from (wiring_of topology) (with_line (wiring_of topology) (course_of topology (take i lines)) (order_of (get_or lines i d)))
      (orders_of (drop (i + 1) lines)))) stops
