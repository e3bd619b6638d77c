-- How far the clock goes on; and where nothing comes next, all that a line lets arrive has arrived.
use Rattle.std.proofs.Common.{ℕ, zero, suc, ◌≡◌, ◌+◌, ◌*◌, ◌≤◌, Bool, true, false, List, [], ◌∷◌, length, length-append, refl, arith, sym, subst, Option}
use Rattle.std.proofs.Common.{Some, None, max}
use Rattle.std.proofs.Math.Nat.{le-max_left, max-le}
use Rattle.mn_base.proofs.Bools.{at_most_tells, and_parts}
use Rattle.mn_topo.specs.Lawful.{IsLawful}
use Rattle.mn_topo.specs.declared.steps.Damaged.TheVariants.{Undamaged}
use Rattle.mn_topo.specs.Network.{Network}
use Rattle.mn_topo.specs.declared.steps.Step.{Step}
use Rattle.mn_topo.specs.declared.steps.Step.TheVariants.{Inject, Tick}
use Rattle.mn_script.specs.declared.command.Command.{Command}
use Rattle.mn_script.specs.declared.command.Command.TheVariants.{Do, Damage, Run, Drain, Flush, Show}
use Rattle.mn_topo.specs.declared.steps.Damage as damage
use Rattle.mn_entry.specs.Damages.{number_of, entry_for}
use Rattle.mn_script.specs.declared.command.Line.{Line}
use Rattle.mn_script.specs.Lines.{command_fits}
use Rattle.mn_script.specs.Script.{AllFit}
use Rattle.mn_ledger.specs.declared.refused.Refused.{Refused}
use Rattle.mn_ledger.specs.declared.refused.Refused.TheVariants as cause
use Rattle.mn_course_laws.specs.declared.coming.Coming.{Coming}
use Rattle.mn_course_laws.specs.declared.coming.Arrivals.{Arrivals}
use Rattle.mn_course_laws.specs.declared.coming.Arrivals.TheVariants.{DueBy, News, AllFrames}
use Rattle.mn_course_laws.specs.declared.coming.Ending.{Ending}
use Rattle.mn_course_laws.specs.declared.coming.Ending.TheVariants as ending
use Rattle.mn_course_laws.specs.Coming.{delivery}
use Rattle.mn_course_laws.specs.Course.{Past, Course, with_step, on_to, record_of, tried, refusal_now, injected, stepped, arrived, is_journal_full, one_by_one}
use Rattle.mn_course_laws.specs.Course.{next_now, unless_refused, with_damage, damage_refused_by, damaged}
use Rattle.mn_course_laws.specs.Course.{deliver, all, until, most_of, played}
use Rattle.mn_course_laws.specs.Expansion.{Expansion, after_line, with_line, unless_stopped, expanded_from, start_of, expanded}
use Rattle.mn_course_laws.specs.Lawful.{IsLawfulPast}
use Rattle.mn_course_laws.specs.Paced.{ticks_of, IsPaced}
use Rattle.mn_course_laws.proofs.Going.{Has, Comes, next_can_come, arrived_goes, played_goes}
use Rattle.mn_ledger.specs.Time.{ticks_in}
use Rattle.mn_topo.specs.Steps.{fits}
use Rattle.std.specs.Prelude.{nat_le}

-- 1. Paces

same_pace : (past : Past) → IsPaced 0 past past
same_pace past = record { onward = omega arith; longer = omega arith; within = omega arith }

then_pace : (ticks : ℕ) (a b c : Past) → IsPaced 0 a b → IsPaced ticks b c → IsPaced ticks a c
then_pace ticks a b c h g = record {
  onward = omega (arith, h.onward, g.onward);
  longer = omega (arith, h.longer, g.longer);
  within = omega (arith, h.within, g.within);
}

one_step : (past : Past) (s : Step) → IsPaced (ticks_in s) past (with_step past s)
one_step past s =
    let long = length-append past.entries (record { tick = past.clock; step = s; damaged = Undamaged } ∷ []) in
    record { onward = omega arith; longer = omega (arith, long); within = omega (arith, long) }

one_damage : (past : Past) (d : damage.Damage) → IsPaced 0 past (with_damage past d)
one_damage past d =
    let long = length-append past.entries (entry_for past.clock d ∷ []) in
    record { onward = omega arith; longer = omega (arith, long); within = omega (arith, long) }

-- at most 1,000 ticks, and a step
one_arrival : (past : Past) (due : ℕ) (s : Step) → due ≤ past.clock + 1000 → ticks_in s ≡ 0 → IsPaced 0 past (with_step (on_to due past) s)
one_arrival past due s soon still =
    let long = length-append past.entries (record { tick = max past.clock due; step = s; damaged = Undamaged } ∷ []) in
    let back : past.clock ≤ max past.clock due = le-max_left past.clock due in
    let few : max past.clock due ≤ past.clock + 1000 = max-le (omega arith) soon in
    record { onward = omega (arith, back, still); longer = omega (arith, long); within = omega (arith, long, few, still) }

-- the clock goes on to an end
to_end : (past later : Past) (ticks : ℕ) → IsPaced 0 past later → IsPaced ticks past (on_to (past.clock + ticks) later)
to_end past later ticks h =
    let back : later.clock ≤ max later.clock (past.clock + ticks) = le-max_left later.clock (past.clock + ticks) in
    record {
      onward = omega (arith, h.onward, back);
      longer = h.longer;
      within = grind (arith, h.within, h.longer);
    }

module _ (t : Network) (lawful : IsLawful t) (capture : List (List ℕ)) where
  -- 2. A line

  arrived_paced : (arrivals : Arrivals) (past : Past) (item : Coming) → IsLawfulPast t capture past → Comes t lawful capture arrivals past item
      → IsPaced 0 past (arrived arrivals past item)
  arrived_paced News past item h c = subst (λ n. IsPaced n past (with_step past (delivery item))) c.can.still (one_step past (delivery item))
  arrived_paced (DueBy end) past item h c = one_arrival past item.due (delivery item) (omega (arith, c.can.soon, h.forward.later)) c.can.still
  arrived_paced AllFrames past item h c = one_arrival past item.due (delivery item) (omega (arith, c.can.soon, h.forward.later)) c.can.still

  pub deliver_paced : (arrivals : Arrivals) (most : ℕ) (past : Past) → IsLawfulPast t capture past → IsPaced 0 past (deliver t capture arrivals most past).past
  deliver_paced arrivals zero past h = same_pace past
  deliver_paced arrivals (suc more) past h =
      by (is_journal_full past) (next_now t capture arrivals past) refl (next_can_come t lawful capture arrivals past h)
      (λ later g. deliver_paced arrivals more later g)
    where
      by : (full : Bool) (o : Option Coming) → is_journal_full past ≡ full → Has (Comes t lawful capture arrivals past) o
          → ((later : Past) → IsLawfulPast t capture later → IsPaced 0 later (deliver t capture arrivals more later).past)
          → IsPaced 0 past (one_by_one arrivals (λ later. deliver t capture arrivals more later) past full o).past
      by full None f c rest = same_pace past
      by true (Some item) f c rest = same_pace past
      by false (Some item) f c rest =
          let later : Past = arrived arrivals past item in
          then_pace 0 past later (deliver t capture arrivals more later).past (arrived_paced arrivals past item h c)
          (rest later (arrived_goes t lawful capture arrivals past item h c f))

  some_ticks : (ticks : ℕ) (a b : Past) → IsPaced 0 a b → IsPaced ticks a b
  some_ticks ticks a b h = record { onward = h.onward; longer = h.longer; within = omega (arith, h.within) }

  tried_paced : (past : Past) (s : Step) (o : Option Refused) → IsPaced (ticks_in s) past (tried past s o).past
  tried_paced past s None = one_step past s
  tried_paced past s (Some cause.TooManySteps) = some_ticks (ticks_in s) past past (same_pace past)
  tried_paced past s (Some _) = some_ticks (ticks_in s) past past (same_pace past)

  injected_paced : (past : Past) (s : Step) (o : Option (List ℕ)) → IsPaced (ticks_in s) past (injected t capture past s o).past
  injected_paced past s None = some_ticks (ticks_in s) past past (same_pace past)
  injected_paced past s (Some bytes) = tried_paced past s (refusal_now t capture past s bytes)

  stepped_paced : (past : Past) (s : Step) → IsPaced (ticks_in s) past (stepped t capture past s).past
  stepped_paced past (Inject s number) = injected_paced past (Inject s number) (record_of capture number)
  stepped_paced past s = tried_paced past s (refusal_now t capture past s [])

  unless_paced : (done past : Past) (o : Option Refused) → IsPaced 0 past done → IsPaced 0 past (unless_refused done past o).past
  unless_paced done past None h = h
  unless_paced done past (Some cause.TooManySteps) h = same_pace past
  unless_paced done past (Some _) h = same_pace past

  damaged_paced : (past : Past) (d : damage.Damage) (o : Option (List ℕ)) → IsPaced 0 past (damaged t capture past d o).past
  damaged_paced past d None = same_pace past
  damaged_paced past d (Some bytes) = unless_paced (with_damage past d) past (damage_refused_by t capture past d bytes) (one_damage past d)

  until_paced : (past later : Past) (ticks : ℕ) (how : Ending) → IsPaced 0 past later → IsPaced ticks past (until (past.clock + ticks) later how).past
  until_paced past later ticks ending.All h = to_end past later ticks h
  until_paced past later ticks (ending.Refused why) h = some_ticks ticks past later h
  until_paced past later ticks ending.NoRecord h = some_ticks ticks past later h
  until_paced past later ticks ending.TooManySteps h = some_ticks ticks past later h

  pub played_paced : (past : Past) (command : Command) → IsLawfulPast t capture past → IsPaced (ticks_of command) past (played t capture past command).past
  played_paced past (Do s) h = stepped_paced past s
  played_paced past (Damage d) h = damaged_paced past d (record_of capture (number_of d))
  played_paced past (Run ticks) h =
      let course : Course = deliver t capture (DueBy (past.clock + ticks)) all past in
      until_paced past course.past ticks course.ending (deliver_paced (DueBy (past.clock + ticks)) all past h)
  played_paced past (Drain most) h = deliver_paced News (most_of most) past h
  played_paced past Flush h = deliver_paced AllFrames all past h
  played_paced past (Show table) h = same_pace past

  -- 3. A script

  few_in : (s : Step) → fits t s ≡ true → ticks_in s ≤ 1000000
  few_in (Tick ticks) fit = at_most_tells ticks 1000000 (and_parts (nat_le 1 ticks) (nat_le ticks 1000000) fit).1
  few_in _ fit = omega arith

  few_ticks : (command : Command) → command_fits t command ≡ true → ticks_of command ≤ 1000000
  few_ticks (Run ticks) fit = at_most_tells ticks 1000000 fit
  few_ticks (Do s) fit = few_in s fit
  few_ticks (Damage d) fit = omega arith
  few_ticks (Drain most) fit = omega arith
  few_ticks Flush fit = omega arith
  few_ticks (Show table) fit = omega arith

  at_most : (few many : ℕ) (a b : Past) → few ≤ many → IsPaced few a b → IsPaced many a b
  at_most few many a b le h = record { onward = h.onward; longer = h.longer; within = omega (arith, h.within, le) }

  both_paced : (few more : ℕ) (a b c : Past) → IsPaced few a b → IsPaced more b c → IsPaced (few + more) a c
  both_paced few more a b c h g = record {
    onward = omega (arith, h.onward, g.onward);
    longer = omega (arith, h.longer, g.longer);
    within = omega (arith, h.within, g.within);
  }

  line_past : (before : Expansion) (line : Line) (past : Past) (how : Ending) → (after_line before line past how).past ≡ past
  line_past before line past ending.All = refl
  line_past before line past (ending.Refused why) = refl
  line_past before line past ending.NoRecord = refl
  line_past before line past ending.TooManySteps = refl

  script_paced : (now : Expansion) (lines : List Line) → IsLawfulPast t capture now.past → AllFit t lines
      → IsPaced (1000000 * length lines) now.past (expanded_from t capture now lines).past
  script_paced now [] h fit = at_most 0 (1000000 * 0) now.past now.past (omega arith) (same_pace now.past)
  script_paced now (line ∷ lines) h fit =
      let course : Course = played t capture now.past line.command in
      let fits_line : command_fits t line.command ≡ true = fit 0 line (omega arith) in
      let same : (with_line t capture now line).past ≡ course.past = line_past now line course.past course.ending in
      let one : IsPaced 1000000 now.past course.past =
      at_most (ticks_of line.command) 1000000 now.past course.past (few_ticks line.command fits_line) (played_paced now.past line.command h) in
      by now.is_stopped (subst (IsPaced 1000000 now.past) (sym same) one)
      (script_paced (with_line t capture now line) lines
      (subst (IsLawfulPast t capture) (sym same) (played_goes t lawful capture now.past line.command h fits_line))
      (λ i d below. fit (suc i) d (omega (arith, below))))
    where
      by : (b : Bool) → IsPaced 1000000 now.past (with_line t capture now line).past
          → IsPaced (1000000 * length lines) (with_line t capture now line).past (expanded_from t capture (with_line t capture now line) lines).past
          → IsPaced (1000000 * suc (length lines)) now.past (unless_stopped b now (expanded_from t capture (with_line t capture now line) lines)).past
      by true h g = at_most 0 (1000000 * suc (length lines)) now.past now.past (omega arith) (same_pace now.past)
      by false h g =
          let last : Past = (expanded_from t capture (with_line t capture now line) lines).past in
          at_most (1000000 + 1000000 * length lines) (1000000 * suc (length lines)) now.past last (omega arith)
          (both_paced 1000000 (1000000 * length lines) now.past (with_line t capture now line).past last h g)

  pub expanded_paced : (lines : List Line) → AllFit t lines
      → IsPaced (1000000 * length lines) (record { clock = 0; entries = [] }) (expanded t capture lines).past
  expanded_paced lines fit = script_paced (start_of (record { clock = 0; entries = [] })) lines
      (record { journal = tt; forward = record { later = omega arith; due = refl }; each = refl }) fit
