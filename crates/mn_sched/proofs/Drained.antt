-- A drain of the network is the course's.
use Rattle.std.proofs.Common.{ℕ, ◌≡◌, ◌+◌, ◌≤◌, ◌^◌, ◌<◌, inl, inr, List, length, refl, sym, ◌∙◌, ap, subst, Option, Some, None, Result}
use Rattle.std.proofs.Common.{Ok, Err}
use Rattle.std.proofs.lemmas.Bool.Decides.{leb_tells}
use Rattle.mn_topo.specs.Lawful.{IsLawful}
use Rattle.mn_script.specs.declared.command.Command.{Command}
use Rattle.mn_script.specs.declared.command.Command.TheVariants.{Drain}
use Rattle.mn_ledger.specs.Ledger.{world_of, packets_of}
use Rattle.mn_ledger.specs.Lawful.{GoesForward}
use Rattle.mn_ledger.specs.Items.{flight_of}
use Rattle.mn_ledger.specs.Settled.{IsSettled}
use Rattle.mn_ledger.specs.OneMore.{tick_from}
use Rattle.mn_drain_laws.specs.Drain.{drain_bound}
use Rattle.mn_course_laws.specs.declared.coming.Arrivals.TheVariants.{News}
use Rattle.mn_course_laws.specs.declared.coming.Ending.TheVariants as ending
use Rattle.mn_course_laws.specs.Course.{Past, Course, ends, inputs_of, deliver, all, most_of}
use Rattle.mn_course_laws.specs.Drains.{DrainsOn, DrainsAll}
use Rattle.mn_course_laws.specs.Lawful.{IsLawfulPast}
use Rattle.mn_course_laws.specs.Paced.{HaveArrived}
use Rattle.mn_course_laws.proofs.Draining.{drains_all}
use Rattle.mn_course_laws.proofs.Emptied.{all_have_arrived}
use Rattle.mn_net.specs.Now.{NetNow, StandsFor}
use Rattle.mn_sched.specs.declared.line.Played.{Played}
use Rattle.mn_sched.specs.declared.line.Stopped.{Stopped}
use Rattle.mn_sched.specs.declared.line.Stopped.TheVariants.{TooManySteps, Read, Write, NoMemory}
use Rattle.mn_sched.specs.Playing.{past_of, Arrives, as_played}
use Rattle.mn_sched.specs.Draining.{HasDrained, DrainsWhole, DrainsBy}

-- what has happened to a net that stands for its journal's packets is lawful
pub lawful_past : (net : NetNow) (capture : List (List ℕ)) → StandsFor net (inputs_of capture net.journal)
    → GoesForward net.topology (tick_from 0 net.journal) (packets_of net.topology net.journal (inputs_of capture net.journal)) net.tick
    → IsLawfulPast net.topology capture (past_of net)
lawful_past net capture stands forward = record { journal = stands.stands.lawful; forward = forward; each = stands.stands.each }

module _ (capture : List (List ℕ)) (old new : NetNow) (lawful : IsLawful old.topology) (good : IsLawfulPast old.topology capture (past_of old))
    (early : old.tick ≤ 2 ^ 61) where
  whole : DrainsAll old.topology (past_of old) (deliver old.topology capture News all (past_of old))
  whole = drains_all old.topology lawful capture (past_of old) good early

  has_drained : (course : Course) → course ≡ deliver old.topology capture News all (past_of old) → course.ending ≡ ending.All → past_of new ≡ course.past
      → HasDrained capture old new
  has_drained course is over past =
      let same : ends ending.All (past_of new) ≡ course = ap (ends ending.All) past ∙ ap (λ how. ends how course.past) (sym over) in
      let all_is : DrainsAll old.topology (past_of old) course = subst (DrainsAll old.topology (past_of old)) (sym is) whole in
      let entries : new.journal ≡ course.past.entries = ap (λ (p : Past). p.entries) past in
      record {
        drains = subst (DrainsOn old.topology (past_of old)) (sym same) all_is.drains;
        arrived =
            subst (λ es. HaveArrived News (flight_of old.topology es (inputs_of capture es)).items) (sym entries)
            (subst (λ (c : Course). HaveArrived News (flight_of old.topology c.past.entries (inputs_of capture c.past.entries)).items) (sym is)
            (all_have_arrived old.topology lawful capture News (past_of old) good early (ap (λ (c : Course). c.ending) (sym is) ∙ over)));
        settled = λ on. subst (λ es. IsSettled old.topology (world_of old.topology es)) (sym entries) (all_is.settled over on);
      }

  stopped_full : (course : Course) → course ≡ deliver old.topology capture News all (past_of old) → course.ending ≡ ending.TooManySteps
      → 4000000 < length old.journal + drain_bound old.topology (world_of old.topology old.journal)
  stopped_full course is stopped =
      elim (leb_tells (length old.journal + drain_bound old.topology (world_of old.topology old.journal)) 4000000) [
        | inl q ↦ absurd (not_both (sym (ap (λ (c : Course). c.ending) is ∙ whole.ends q.1) ∙ stopped))
        | inr q ↦ q.1
      ]
    where
      not_both : ending.All ≡ ending.TooManySteps → ⊥
      not_both h = cc

  pub it_drains : (arrived : Result (Unit {0}) Stopped) → Arrives (deliver old.topology capture News all (past_of old)) new arrived
      → DrainsWhole capture old new (as_played arrived)
  it_drains (Ok x) h = has_drained (deliver old.topology capture News all (past_of old)) refl h.0 h.1
  it_drains (Err TooManySteps) h = stopped_full (deliver old.topology capture News all (past_of old)) refl h.0
  it_drains (Err Read) h = tt
  it_drains (Err Write) h = tt
  it_drains (Err NoMemory) h = tt

  pub drains_by : (most : Option ℕ) (count : ℕ) (arrived : Result (Unit {0}) Stopped) (result : Result Played Stopped) → count ≡ most_of most
      → Arrives (deliver old.topology capture News count (past_of old)) new arrived → result ≡ as_played arrived
      → DrainsBy (Drain most) capture old new result
  drains_by (Some most) count arrived result e h is = tt
  drains_by None count arrived result e h is =
      subst (DrainsWhole capture old new) (sym is)
      (it_drains arrived (subst (λ n. Arrives (deliver old.topology capture News n (past_of old)) new arrived) e h))

-- other lines are asked for nothing
pub drains_plainly : (command other : Command) (capture : List (List ℕ)) (old new : NetNow) (result : Result Played Stopped) → command ≡ other
    → DrainsBy other capture old new result → DrainsBy command capture old new result
drains_plainly command other capture old new result is h = subst (λ c. DrainsBy c capture old new result) (sym is) h
