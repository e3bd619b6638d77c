-- What holds wherever a run of a flood has come, and how its drains end.
use Rattle.std.proofs.Common.{ℕ, zero, suc, ◌≡◌, ◌+◌, ◌<◌, ◌≤◌, inl, Bool, true, false, cond, List, [], ◌∷◌, ◌++◌, length, Option, Some, None}
use Rattle.std.proofs.Common.{refl, arith, sym, ◌∙◌, ap, subst, length-append}
use Rattle.std.specs.Prelude.{nat_le, All, ⊤}
use Rattle.std.proofs.lemmas.List.{get_or_append_left}
use Rattle.std.proofs.lemmas.List.Elements.{All-nil, All-cons, All-head, All-tail}
use Rattle.mn_base.proofs.Bools.{less_tells, not_at_most_tells}
use Rattle.mn_base.proofs.Members.{In, contained_in}
use Rattle.mn_base.specs.Limits.{most_steps}
use Rattle.mn_wiring.specs.Wiring.{Wiring, JoinsNodes, EndsDiffer}
use Rattle.mn_topo.specs.Network.{Network, wiring_of}
use Rattle.mn_flood_laws.specs.Flood.{FloodWorld, FloodEvent, Hear, Sent, flood_after, heard}
use Rattle.mn_flood_laws.specs.Laws.{IsFlood, is_of}
use Rattle.mn_flood_laws.specs.Drain.{hear_first, drained, drain_bound}
use Rattle.mn_flood_laws.specs.Course.{FloodRefused, FloodRun, flood_refusal, stepped, tried, unless_stopped, drained_by, drain_for, every_hearing, with_line}
use Rattle.mn_flood_laws.specs.Course.{run_from, first_run}
use Rattle.mn_flood_laws.specs.Course as course
use Rattle.mn_flood_laws.proofs.Start.{start_is, from_any}
use Rattle.mn_flood_laws.proofs.Draining.{drain_ends}
use Rattle.mn_flood_run.specs.declared.command.FloodCommand.{FloodCommand}
use Rattle.mn_flood_run.specs.declared.command.FloodCommand.TheVariants as command
use Rattle.mn_flood_run.specs.declared.command.FloodLine.{FloodLine}
use Rattle.mn_flood_run.specs.Language.{command_fits, ordered, order_of, orders_of}
use Rattle.mn_flood_run.specs.Report.{course_of}
use Rattle.mn_flood_run.proofs.Courses.{course_next}

-- its world is a flood's, and there are no more steps than there may be
pub record IsSoundRun (wiring : Wiring) (run : FloodRun) : Type 0 where
  pub flood : IsFlood wiring run.world
  pub few : run.steps ≤ most_steps

module _ (wiring : Wiring) (joins : JoinsNodes wiring) (differ : EndsDiffer wiring) where
  -- 1. Wherever it has come

  event_keeps : (world : FloodWorld) (event : FloodEvent) → IsFlood wiring world → is_of (length wiring.ends) event →
      IsFlood wiring (flood_after wiring world event)
  event_keeps world event f h = from_any wiring joins differ world f (event ∷ []) (h, tt)

  pub step_keeps : (run : FloodRun) (event : FloodEvent) → is_of (length wiring.ends) event → IsSoundRun wiring run →
      IsSoundRun wiring (stepped wiring run event)
  step_keeps run event h sound = by (nat_le most_steps run.steps) refl
    where
      by : (b : Bool) → nat_le most_steps run.steps ≡ b →
          IsSoundRun wiring (cond b (record run { is_stopped = true }) (record run { world = flood_after wiring run.world event; steps = run.steps + 1 }))
      by true e = record { flood = sound.flood; few = sound.few }
      by false e =
          let room : run.steps < most_steps = not_at_most_tells most_steps run.steps e in
          record { flood = event_keeps run.world event sound.flood h; few = omega (arith, room) }

  unless_keeps : (run : FloodRun) (on : FloodRun → FloodRun) (b : Bool) → IsSoundRun wiring run → IsSoundRun wiring (on run) →
      IsSoundRun wiring (cond b run (on run))
  unless_keeps run on true one other = one
  unless_keeps run on false one other = other

  drained_keeps : (run : FloodRun) (on : FloodRun → FloodRun) → IsSoundRun wiring run → ((r : FloodRun) → IsSoundRun wiring r → IsSoundRun wiring (on r)) →
      (flying : List Sent) → run.world.flying ≡ flying → IsSoundRun wiring (drained_by wiring on run flying)
  drained_keeps run on sound keeps [] e = sound
  drained_keeps run on sound keeps (sent ∷ more) e =
      let flies : In run.world.flying sent = subst (λ xs. In xs sent) (sym e) (inl refl) in
      let next : IsSoundRun wiring (stepped wiring run (Hear sent.link sent.dir)) =
      step_keeps run (Hear sent.link sent.dir) (sound.flood.flights sent (contained_in run.world.flying sent flies)).link sound in
      unless_keeps (stepped wiring run (Hear sent.link sent.dir)) on (stepped wiring run (Hear sent.link sent.dir)).is_stopped next
      (keeps (stepped wiring run (Hear sent.link sent.dir)) next)

  pub drain_keeps : (count : ℕ) (run : FloodRun) → IsSoundRun wiring run → IsSoundRun wiring (drain_for count wiring run)
  drain_keeps zero run sound = sound
  drain_keeps (suc count) run sound = drained_keeps run (λ later. drain_for count wiring later) sound (λ r s. drain_keeps count r s) run.world.flying refl

  tried_keeps : (run : FloodRun) (number : ℕ) (event : FloodEvent) → is_of (length wiring.ends) event → IsSoundRun wiring run → (o : Option FloodRefused) →
      IsSoundRun wiring (tried wiring run number event o)
  tried_keeps run number event h sound None = step_keeps run event h sound
  tried_keeps run number event h sound (Some cause) = record { flood = sound.flood; few = sound.few }

  -- the order of a line that names a link of the wiring
  abbrev pub IsOf : course.FloodCommand → Type 0
  IsOf (course.Do event) = is_of (length wiring.ends) event
  IsOf course.Drain = ⊤

  pub line_keeps : (run : FloodRun) (number : ℕ) (order : course.FloodCommand) → IsOf order → IsSoundRun wiring run →
      IsSoundRun wiring (with_line wiring run (record { number = number; command = order }))
  line_keeps run number (course.Do event) h sound = tried_keeps run number event h sound (flood_refusal run.world event)
  line_keeps run number course.Drain h sound = drain_keeps every_hearing run sound

  -- 2. A drain

  heard_first : (world : FloodWorld) (sent : Sent) (more : List Sent) → world.flying ≡ sent ∷ more →
      hear_first wiring world world.flying ≡ heard wiring world sent.link sent.dir
  heard_first world sent more e = ap (hear_first wiring world) e

  stays : (run : FloodRun) (on : FloodRun → FloodRun) (most : ℕ) (b : Bool) → run.steps ≤ most → (on run).steps ≤ most → (cond b run (on run)).steps ≤ most
  stays run on most true one other = one
  stays run on most false one other = other

  -- where so many hearings leave none flying, it has no more steps
  pub drain_within : (count most : ℕ) (run : FloodRun) → (drained most wiring run.world).flying ≡ [] → (drain_for count wiring run).steps ≤ run.steps + most
  drain_within zero most run quiet = omega arith
  drain_within (suc count) most run quiet = by run.world.flying refl most quiet (λ m r q. drain_within count m r q)
    where
      after : (sent : Sent) (m : ℕ) → (drained m wiring (heard wiring run.world sent.link sent.dir)).flying ≡ [] →
          ((k : ℕ) (r : FloodRun) → (drained k wiring r.world).flying ≡ [] → (drain_for count wiring r).steps ≤ r.steps + k) → (b : Bool) →
          (unless_stopped (cond b (record run { is_stopped = true }) (record run { world = heard wiring run.world sent.link sent.dir; steps = run.steps + 1 }))
          (λ later. drain_for count wiring later)).steps ≤ run.steps + suc m
      after sent m q rest true = omega arith
      after sent m q rest false =
          let next : FloodRun = record run { world = heard wiring run.world sent.link sent.dir; steps = run.steps + 1 } in
          let bound : (drain_for count wiring next).steps ≤ run.steps + 1 + m = rest m next q in
          stays next (λ later. drain_for count wiring later) (run.steps + suc m) run.is_stopped (omega arith) (omega (arith, bound))

      by : (flying : List Sent) → run.world.flying ≡ flying → (m : ℕ) → (drained m wiring run.world).flying ≡ [] →
          ((k : ℕ) (r : FloodRun) → (drained k wiring r.world).flying ≡ [] → (drain_for count wiring r).steps ≤ r.steps + k) →
          (drained_by wiring (λ later. drain_for count wiring later) run flying).steps ≤ run.steps + m
      by [] e m q rest = omega arith
      by (sent ∷ more) e zero q rest = let wrong : sent ∷ more ≡ [] = sym e ∙ q in cc
      by (sent ∷ more) e (suc m) q rest =
          after sent m (subst (λ w. (drained m wiring w).flying ≡ []) (heard_first run.world sent more e) q) rest (nat_le most_steps run.steps)

  -- with more turns than there may be steps, it ends by steps or with none flying
  pub drain_quiet : (count : ℕ) (run : FloodRun) → run.steps ≤ most_steps → most_steps < run.steps + count → (drain_for count wiring run).is_stopped ≡ false →
      (drain_for count wiring run).world.flying ≡ []
  drain_quiet zero run few many goes = absurd (omega (arith, few, many))
  drain_quiet (suc count) run few many goes = by run.world.flying refl goes (λ r f m g. drain_quiet count r f m g)
    where
      past : (next : FloodRun) → ((drain_for count wiring next).is_stopped ≡ false → (drain_for count wiring next).world.flying ≡ []) → (b : Bool) →
          next.is_stopped ≡ b →
          (cond b next (drain_for count wiring next)).is_stopped ≡ false → (cond b next (drain_for count wiring next)).world.flying ≡ []
      past next rest true e g = let wrong : true ≡ false = sym e ∙ g in cc
      past next rest false e g = rest g

      after : (sent : Sent) (rest : (r : FloodRun) → r.steps ≤ most_steps → most_steps < r.steps + count → (drain_for count wiring r).is_stopped ≡ false →
          (drain_for count wiring r).world.flying ≡ []) → (b : Bool) → nat_le most_steps run.steps ≡ b →
          (unless_stopped (cond b (record run { is_stopped = true }) (record run { world = heard wiring run.world sent.link sent.dir; steps = run.steps + 1 }))
          (λ later. drain_for count wiring later)).is_stopped ≡ false →
          (unless_stopped (cond b (record run { is_stopped = true }) (record run { world = heard wiring run.world sent.link sent.dir; steps = run.steps + 1 }))
          (λ later. drain_for count wiring later)).world.flying ≡ []
      after sent rest true e g = cc
      after sent rest false e g =
          let next : FloodRun = record run { world = heard wiring run.world sent.link sent.dir; steps = run.steps + 1 } in
          let room : run.steps < most_steps = not_at_most_tells most_steps run.steps e in
          past next (rest next (omega (arith, room)) (omega (arith, many))) run.is_stopped refl g

      by : (flying : List Sent) → run.world.flying ≡ flying → (drained_by wiring (λ later. drain_for count wiring later) run flying).is_stopped ≡ false →
          ((r : FloodRun) → r.steps ≤ most_steps → most_steps < r.steps + count → (drain_for count wiring r).is_stopped ≡ false →
          (drain_for count wiring r).world.flying ≡ []) →
          (drained_by wiring (λ later. drain_for count wiring later) run flying).world.flying ≡ []
      by [] e g rest = e
      by (sent ∷ more) e g rest = after sent rest (nat_le most_steps run.steps) refl g

-- 3. Over the lines of a script

lines_keep : (wiring : Wiring) (joins : JoinsNodes wiring) (differ : EndsDiffer wiring) (orders : List course.FloodLine) (run : FloodRun) →
    IsSoundRun wiring run →
    All (λ (line : course.FloodLine). IsOf wiring joins differ line.command) orders → IsSoundRun wiring (run_from wiring run orders)
lines_keep wiring joins differ [] run sound h = sound
lines_keep wiring joins differ (line ∷ lines) run sound h =
    let next : IsSoundRun wiring (with_line wiring run line) = line_keeps wiring joins differ run line.number line.command
    (All-head (λ (x : course.FloodLine). IsOf wiring joins differ x.command) line lines h) sound in
    unless_keeps wiring joins differ (with_line wiring run line) (λ later. run_from wiring later lines) (with_line wiring run line).is_stopped next
    (lines_keep wiring joins differ lines (with_line wiring run line) next
    (All-tail (λ (x : course.FloodLine). IsOf wiring joins differ x.command) line lines h))

module _ (topology : Network) (joins : JoinsNodes (wiring_of topology)) (differ : EndsDiffer (wiring_of topology)) where
  pub is_of_it : (command : FloodCommand) → command_fits topology command ≡ true →
      IsOf (wiring_of topology) joins differ (ordered command)
  is_of_it (command.Change link up) h = less_tells link.0 (length topology.links) h
  is_of_it (command.Hear link dir) h = less_tells link.0 (length topology.links) h
  is_of_it command.Drain h = tt

  are_of_it : (lines : List FloodLine) → All (λ (line : FloodLine). command_fits topology line.command ≡ true) lines →
      All (λ (line : course.FloodLine). IsOf (wiring_of topology) joins differ line.command) (orders_of lines)
  are_of_it [] h = All-nil (λ (x : course.FloodLine). IsOf (wiring_of topology) joins differ x.command)
  are_of_it (line ∷ lines) h =
      All-cons (λ (x : course.FloodLine). IsOf (wiring_of topology) joins differ x.command) (order_of line) (orders_of lines)
      (is_of_it line.command (All-head (λ (x : FloodLine). command_fits topology x.command ≡ true) line lines h))
      (are_of_it lines (All-tail (λ (x : FloodLine). command_fits topology x.command ≡ true) line lines h))

  pub course_sound : (lines : List FloodLine) → All (λ (line : FloodLine). command_fits topology line.command ≡ true) lines →
      IsSoundRun (wiring_of topology) (course_of topology lines)
  course_sound lines h = lines_keep (wiring_of topology) joins differ (orders_of lines) (first_run (wiring_of topology))
      (record { flood = start_is (wiring_of topology); few = omega arith }) (are_of_it lines h)

  -- a drain behind a course
  pub drain_order : (line : FloodLine) → line.command ≡ command.Drain → order_of line ≡ record { number = line.number; command = course.Drain }
  drain_order line e = ap (λ c. record { number = line.number; command = ordered c }) e

  pub drain_course : (front : List FloodLine) (line : FloodLine) → line.command ≡ command.Drain → (course_of topology front).is_stopped ≡ false →
      course_of topology (front ++ line ∷ []) ≡ drain_for every_hearing (wiring_of topology) (course_of topology front)
  drain_course front line e goes =
      course_next topology front line goes ∙ ap (with_line (wiring_of topology) (course_of topology front)) (drain_order line e)

  pub bounded : (front : List FloodLine) (line : FloodLine) → line.command ≡ command.Drain → (course_of topology front).is_stopped ≡ false →
      IsSoundRun (wiring_of topology) (course_of topology front) →
      (course_of topology (front ++ line ∷ [])).steps ≤ (course_of topology front).steps + drain_bound (wiring_of topology) (course_of topology front).world
  bounded front line e goes sound =
      subst (λ r. r.steps ≤ (course_of topology front).steps + drain_bound (wiring_of topology) (course_of topology front).world)
      (sym (drain_course front line e goes))
      (drain_within (wiring_of topology) joins differ every_hearing (drain_bound (wiring_of topology) (course_of topology front).world)
      (course_of topology front)
      (drain_ends (wiring_of topology) joins differ (course_of topology front).world sound.flood))

  many_turns : (steps : ℕ) → most_steps < steps + every_hearing
  unfolding every_hearing
  many_turns steps = omega arith

  pub quiet : (front : List FloodLine) (line : FloodLine) → line.command ≡ command.Drain → (course_of topology front).is_stopped ≡ false →
      IsSoundRun (wiring_of topology) (course_of topology front) → (course_of topology (front ++ line ∷ [])).is_stopped ≡ false →
      (course_of topology (front ++ line ∷ [])).world.flying ≡ []
  quiet front line e goes sound = subst (λ r. r.is_stopped ≡ false → r.world.flying ≡ []) (sym (drain_course front line e goes))
      (drain_quiet (wiring_of topology) joins differ every_hearing (course_of topology front) sound.few (many_turns (course_of topology front).steps))

-- the lines before some others
pub all_before : {X : Type 0} (P : X → Type 0) (front back : List X) → All P (front ++ back) → All P front
all_before P front back h = λ k d lt. let long = length-append front back in subst P (get_or_append_left front back d k lt) (h k d (omega arith))
