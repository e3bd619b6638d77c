-- How the drains of a script end.
use Rattle.std.proofs.Common.{ℕ, zero, suc, ◌≡◌, ◌≢◌, ◌+◌, ◌<◌, ◌≤◌, inl, inr, Bool, true, false, cond, List, [], ◌∷◌, ◌++◌, length, Option, Some, None}
use Rattle.std.proofs.Common.{refl, arith, sym, ◌∙◌, ap, subst, append-nil, append_assoc, length-append}
use Rattle.std.specs.Prelude.{◌==◌, ◌&&◌, ◌||◌, not, nat_le, is_none}
use Rattle.mn_base.specs.Limits.{most_steps}
use Rattle.mn_base.proofs.Bools.{no, and_left, and_right, or_ways, not_at_most_tells}
use Rattle.mn_base.proofs.Members.{In}
use Rattle.mn_topo.specs.Network.{Network}
use Rattle.mn_topo.specs.VrfTable.{is_edge}
use Rattle.mn_topo.specs.declared.steps.Step.{Step}
use Rattle.mn_topo.specs.declared.steps.Step.TheVariants as step
use Rattle.mn_ledger.specs.declared.refused.Refused.{Refused}
use Rattle.mn_reflect_ledger_laws.specs.Picks.{Spoken, is_reflector}
use Rattle.mn_reflect_ledger_laws.specs.World.{first_word, world_of}
use Rattle.mn_reflect_ledger_laws.specs.Refusal.{refusal}
use Rattle.mn_reflect_world_laws.specs.Steps.{may_peer, AreTaken, IsLawfulRun, first_hearing}
use Rattle.mn_reflect_world_laws.proofs.Run.{names_nodes, world_grows}
use Rattle.mn_reflect_drain_laws.specs.Drain.{ArePeers, IsHearing, IsDrain}
use Rattle.mn_reflect_run.specs.declared.command.ReflectCommand.{ReflectCommand}
use Rattle.mn_reflect_run.specs.declared.command.ReflectCommand.TheVariants as command
use Rattle.mn_reflect_run.specs.declared.command.ReflectLine.{ReflectLine}
use Rattle.mn_reflect_run.specs.Course.{ReflectRun, first_run, stepped, tried, unless_stopped, drained_by, drain_for, next_hearing, every_hearing, most_of}
use Rattle.mn_reflect_run.specs.Course.{asked, after_line, run_from, run_of}
use Rattle.mn_reflect_run.proofs.Hearings.{may_all, live_peers, first_flies}
use Rattle.mn_reflect_run.proofs.Sound.{hearing_more}
use Rattle.mn_reflect_run.proofs.Courses.{course_next}

module _ (t : Network) (reflectors : List ℕ) where
  -- 1. What each hearing is

  -- sessions that live are of a reflector and an edge, or of two reflectors
  pub peers_are : (steps : List Step) → AreTaken t reflectors steps → ArePeers t reflectors (world_of t reflectors steps).config
  peers_are steps taken node peer apart live off =
      let may = live_peers t reflectors (world_of t reflectors steps).config (may_all t reflectors steps taken).live node peer live in
      elim (or_ways (is_reflector reflectors node && (is_reflector reflectors peer || is_edge t.vrfs peer))
      (is_reflector reflectors peer && is_edge t.vrfs node)
      (and_right (not (node == peer)) _ may)) [
        | inl e ↦ absurd (no (sym off ∙ and_left (is_reflector reflectors node) (is_reflector reflectors peer || is_edge t.vrfs peer) e))
        | inr e ↦ (and_right (is_reflector reflectors peer) (is_edge t.vrfs node) e, and_left (is_reflector reflectors peer) (is_edge t.vrfs node) e)
      ]

  first_is_hearing : (steps : List Step) (hearing : Step) → IsLawfulRun t reflectors steps → (flying : List Spoken) →
      (world_of t reflectors steps).flying ≡ flying → first_hearing flying ≡ Some hearing → IsHearing t (world_of t reflectors steps) hearing
  first_is_hearing steps hearing run [] is e = cc
  first_is_hearing steps hearing run (spoken ∷ more) is e =
      subst heard e (names, ap is_none (ap (first_word spoken.from spoken.to) is ∙ first_flies t reflectors spoken more))
    where
      heard : Option Step → Type 0
      heard (Some done) = IsHearing t (world_of t reflectors steps) done
      heard None = Unit {0}

      may : may_peer t reflectors spoken.from spoken.to ≡ true
      may = (may_all t reflectors steps run.taken).flies spoken (subst (λ xs. In xs spoken) (sym is) (inl refl))

      names : (spoken.from ≢ spoken.to) × (spoken.from < length t.loopbacks) × (spoken.to < length t.loopbacks)
      names = names_nodes t reflectors run.topology_is run.are (step.HearBgp (record { 0 = spoken.from }) (record { 0 = spoken.to })) may

  -- 2. The steps of a drain are hearings

  pub record IsHeardBy (run after : ReflectRun) : Type 0 where
    pub hearings : List Step
    pub drain : IsDrain t reflectors (world_of t reflectors run.steps) hearings
    pub steps : after.steps ≡ run.steps ++ hearings

  nothing_more : (run after : ReflectRun) → after.steps ≡ run.steps → IsHeardBy run after
  nothing_more run after e = record { hearings = []; drain = tt; steps = e ∙ sym (append-nil run.steps) }

  pub drain_hears : (count : ℕ) (run : ReflectRun) → IsLawfulRun t reflectors run.steps → IsHeardBy run (drain_for count t reflectors run)
  drain_hears zero run lawful = nothing_more run run refl
  drain_hears (suc count) run lawful = by (next_hearing t reflectors run) refl (λ r l. drain_hears count r l)
    where
      behind : (hearing : Step) → next_hearing t reflectors run ≡ Some hearing → (later : ReflectRun) → later.steps ≡ run.steps ++ hearing ∷ [] →
          (last : ReflectRun) → IsHeardBy later last → IsHeardBy run last
      behind hearing e later same last rest = record {
        hearings = hearing ∷ rest.hearings;
        drain = (
          first_is_hearing run.steps hearing lawful (world_of t reflectors run.steps).flying refl e,
          subst (λ w. IsDrain t reflectors w rest.hearings) (ap (world_of t reflectors) same ∙ world_grows t reflectors run.steps hearing) rest.drain,
        );
        steps = rest.steps ∙ ap (λ xs. xs ++ rest.hearings) same ∙ append_assoc run.steps (hearing ∷ []) rest.hearings;
      }

      goes_on : (hearing : Step) → next_hearing t reflectors run ≡ Some hearing →
          ((r : ReflectRun) → IsLawfulRun t reflectors r.steps → IsHeardBy r (drain_for count t reflectors r)) → (stopped : Bool) →
          (let next : ReflectRun = record run { steps = run.steps ++ hearing ∷ [] } in IsHeardBy run (cond stopped next (drain_for count t reflectors next)))
      goes_on hearing e rest true =
          let next : ReflectRun = record run { steps = run.steps ++ hearing ∷ [] } in behind hearing e next refl next (nothing_more next next refl)
      goes_on hearing e rest false =
          let next : ReflectRun = record run { steps = run.steps ++ hearing ∷ [] } in
          behind hearing e next refl (drain_for count t reflectors next)
          (rest next (hearing_more t reflectors run.steps hearing lawful (next_hearing t reflectors run) e refl))

      full : (hearing : Step) → next_hearing t reflectors run ≡ Some hearing →
          ((r : ReflectRun) → IsLawfulRun t reflectors r.steps → IsHeardBy r (drain_for count t reflectors r)) → (b : Bool) →
          IsHeardBy run (unless_stopped (cond b (record run { is_stopped = true }) (record run { steps = run.steps ++ hearing ∷ [] }))
          (λ later. drain_for count t reflectors later))
      full hearing e rest true = nothing_more run (record run { is_stopped = true }) refl
      full hearing e rest false = goes_on hearing e rest run.is_stopped

      by : (o : Option Step) → next_hearing t reflectors run ≡ o →
          ((r : ReflectRun) → IsLawfulRun t reflectors r.steps → IsHeardBy r (drain_for count t reflectors r)) →
          IsHeardBy run (drained_by (λ later. drain_for count t reflectors later) run o)
      by None e rest = nothing_more run run refl
      by (Some hearing) e rest = full hearing e rest (nat_le most_steps (length run.steps))

  -- 3. There are no more steps than there may be

  abbrev AreFew : ReflectRun → Type 0
  AreFew run = length run.steps ≤ most_steps

  stepped_few : (run : ReflectRun) (done : Step) → AreFew run → AreFew (stepped run done)
  stepped_few run done few = by (nat_le most_steps (length run.steps)) refl
    where
      by : (b : Bool) → nat_le most_steps (length run.steps) ≡ b →
          AreFew (cond b (record run { is_stopped = true }) (record run { steps = run.steps ++ done ∷ [] }))
      by true e = few
      by false e = omega (arith, length-append run.steps (done ∷ []), not_at_most_tells most_steps (length run.steps) e)

  unless_few : (run : ReflectRun) (on : ReflectRun → ReflectRun) (b : Bool) → AreFew run → AreFew (on run) → AreFew (cond b run (on run))
  unless_few run on true one other = one
  unless_few run on false one other = other

  drain_few : (count : ℕ) (run : ReflectRun) → AreFew run → AreFew (drain_for count t reflectors run)
  drain_few zero run few = few
  drain_few (suc count) run few = by (next_hearing t reflectors run) (λ r f. drain_few count r f)
    where
      by : (o : Option Step) → ((r : ReflectRun) → AreFew r → AreFew (drain_for count t reflectors r)) →
          AreFew (drained_by (λ later. drain_for count t reflectors later) run o)
      by None rest = few
      by (Some hearing) rest =
          let next : AreFew (stepped run hearing) = stepped_few run hearing few in
          unless_few (stepped run hearing) (λ later. drain_for count t reflectors later) (stepped run hearing).is_stopped next (rest (stepped run hearing) next)

  tried_few : (run : ReflectRun) (line : ℕ) (done : Step) (o : Option Refused) → AreFew run → AreFew (tried run line done o)
  tried_few run line done None few = stepped_few run done few
  tried_few run line done (Some cause) few = few

  asked_few : (run : ReflectRun) (number : ℕ) (wanted : ReflectCommand) → AreFew run → AreFew (asked t reflectors run number wanted)
  asked_few run number (command.Do done) few = tried_few run number done (refusal t (world_of t reflectors run.steps) done) few
  asked_few run number (command.Drain most) few = drain_few (most_of most) run few
  asked_few run number (command.Show vrf) few = few

  lines_few : (lines : List ReflectLine) (run : ReflectRun) → AreFew run → AreFew (run_from t reflectors run lines)
  lines_few [] run few = few
  lines_few (line ∷ lines) run few =
      let next : AreFew (after_line t reflectors run line) = asked_few run line.number line.command few in
      unless_few (after_line t reflectors run line) (λ later. run_from t reflectors later lines) (after_line t reflectors run line).is_stopped next
      (lines_few lines (after_line t reflectors run line) next)

  pub course_few : (lines : List ReflectLine) → AreFew (run_of t reflectors lines)
  course_few lines = lines_few lines first_run (omega arith)

  -- 4. With more turns than there may be steps, a drain ends by steps or with none flying

  none_first : (flying : List Spoken) → first_hearing flying ≡ None → flying ≡ []
  none_first [] e = refl
  none_first (spoken ∷ more) e = cc

  abbrev EndsQuiet : ReflectRun → Type 0
  EndsQuiet last = last.is_stopped ≡ false → (world_of t reflectors last.steps).flying ≡ []

  drain_quiet : (count : ℕ) (run : ReflectRun) → AreFew run → most_steps < length run.steps + count → EndsQuiet (drain_for count t reflectors run)
  drain_quiet zero run few many = λ goes. absurd (omega (arith, few, many))
  drain_quiet (suc count) run few many = by (next_hearing t reflectors run) refl (λ r f m. drain_quiet count r f m)
    where
      past : (next : ReflectRun) → EndsQuiet (drain_for count t reflectors next) → (b : Bool) → next.is_stopped ≡ b →
          EndsQuiet (cond b next (drain_for count t reflectors next))
      past next rest true e g = let wrong : true ≡ false = sym e ∙ g in cc
      past next rest false e g = rest g

      after_one : (hearing : Step) → ((r : ReflectRun) → AreFew r → most_steps < length r.steps + count → EndsQuiet (drain_for count t reflectors r)) →
          (b : Bool) → nat_le most_steps (length run.steps) ≡ b →
          EndsQuiet (unless_stopped (cond b (record run { is_stopped = true }) (record run { steps = run.steps ++ hearing ∷ [] }))
          (λ later. drain_for count t reflectors later))
      after_one hearing rest true e g = cc
      after_one hearing rest false e g =
          let next : ReflectRun = record run { steps = run.steps ++ hearing ∷ [] } in
          let room : length run.steps < most_steps = not_at_most_tells most_steps (length run.steps) e in
          let longer : length (run.steps ++ hearing ∷ []) ≡ length run.steps + 1 = length-append run.steps (hearing ∷ []) in
          past next (rest next (omega (arith, room, longer)) (omega (arith, many, longer))) run.is_stopped refl g

      by : (o : Option Step) → next_hearing t reflectors run ≡ o →
          ((r : ReflectRun) → AreFew r → most_steps < length r.steps + count → EndsQuiet (drain_for count t reflectors r)) →
          EndsQuiet (drained_by (λ later. drain_for count t reflectors later) run o)
      by None e rest = λ g. none_first (world_of t reflectors run.steps).flying e
      by (Some hearing) e rest = after_one hearing rest (nat_le most_steps (length run.steps)) refl

  many_turns : (steps : ℕ) → most_steps < steps + every_hearing
  unfolding every_hearing
  many_turns steps = omega arith

  -- 5. A drain behind a course

  pub drain_course : (front : List ReflectLine) (line : ReflectLine) (most : Option ℕ) → line.command ≡ command.Drain most →
      (run_of t reflectors front).is_stopped ≡ false →
      run_of t reflectors (front ++ line ∷ []) ≡ drain_for (most_of most) t reflectors (run_of t reflectors front)
  drain_course front line most e goes =
      course_next t reflectors front line goes ∙ ap (asked t reflectors (run_of t reflectors front) line.number) e

  pub quiet : (front : List ReflectLine) (line : ReflectLine) (most : Option ℕ) → line.command ≡ command.Drain most →
      (run_of t reflectors front).is_stopped ≡ false → most ≡ None → EndsQuiet (run_of t reflectors (front ++ line ∷ []))
  quiet front line most e goes none =
      subst EndsQuiet (sym (drain_course front line most e goes ∙ ap (λ o. drain_for (most_of o) t reflectors (run_of t reflectors front)) none))
      (drain_quiet every_hearing (run_of t reflectors front) (course_few front) (many_turns (length (run_of t reflectors front).steps)))
