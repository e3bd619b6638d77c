use Rattle.std.proofs.Common.{◌≡◌, ◌+◌, ℕ, List, [], true, false, sym, ◌∙◌, ap, subst, arith}
use Rattle.mn_topo.specs.Steps.{fits}
use Rattle.mn_ledger.specs.Ledger.{injects}
use Rattle.mn_ledger.specs.Time.{ticks_in}
use Rattle.mn_course_laws.specs.Coming.{delivery}
use Rattle.mn_course_laws.specs.Course.{inputs_of}
use Rattle.mn_sched.proofs.Growing.{err_then}
use Rattle.mn_sched.proofs.Telling.{leaves, made_last, last_fits, set_on, stood, same_journal, takes_no_input, one_arrives, after_one, opens_then, one_goes_on}
use Rattle.mn_sched.specs.Playing.{IsFirstPart}
use Rattle.mn_sched.proofs.Telling.{one_paced, one_longer, one_early, step_grown}
use Rattle.mn_net.specs.Prelude.{is_of_frames}
use Rattle.mn_sched.proofs.Flushing.{room_left}
use Rattle.mn_sched.proofs.line.deliver_one.Goals as goal

pub finish-played-requires : goal.finish-played-requires
finish-played-requires g c =
    let journal = same_journal c.args.arrivals c.args.item.due c.args.net.now c.set_clock.new.net c.set_clock.ensures.past in
    let plain : injects c.delivery-step.result ≡ false = ap injects c.delivery-step.ensures ∙ c.requires.fits.1 in
    let fit : fits c.set_clock.new.net.topology c.delivery-step.result ≡ true =
    ap (λ t. fits t c.delivery-step.result) c.set_clock.ensures.topology ∙ ap (fits c.args.net.now.topology) c.delivery-step.ensures ∙ c.requires.fits.0 in
    record {
      stood = stood c.step-stepped.result c.set_clock.new.net c.step-stepped.new.self c.delivery-step.result [] (g.W.Watch.packets c.args.watch.now)
          (g.W.Watch.stands c.args.watch.now)
          (set_on c.args.net.now c.set_clock.new.net (g.W.Watch.packets c.args.watch.now)
          (g.W.Watch.stands c.args.watch.now) journal c.set_clock.ensures.topology c.set_clock.ensures.stands c.requires.together)
          (λ all told. takes_no_input all c.set_clock.new.net.journal c.set_clock.new.net.tick c.delivery-step.result [] plain)
          c.step-stepped.ensures.longer c.step-stepped.ensures.stands;
      made = made_last c.step-stepped.result c.set_clock.new.net c.step-stepped.new.self c.delivery-step.result [] (g.W.Watch.packets c.args.watch.now)
          (g.W.Watch.stands c.args.watch.now)
          (set_on c.args.net.now c.set_clock.new.net (g.W.Watch.packets c.args.watch.now)
          (g.W.Watch.stands c.args.watch.now) journal c.set_clock.ensures.topology c.set_clock.ensures.stands c.requires.together)
          (λ all told. takes_no_input all c.set_clock.new.net.journal c.set_clock.new.net.tick c.delivery-step.result [] plain)
          c.step-stepped.ensures.longer c.step-stepped.ensures.stands c.step-stepped.ensures.first c.step-stepped.ensures.end;
      fitting = last_fits c.step-stepped.result c.set_clock.new.net c.step-stepped.new.self c.delivery-step.result fit c.step-stepped.ensures.longer;
    }

pub returns-clause-course : goal.returns-clause-course
returns-clause-course g c = λ all before.
    let journal = same_journal c.args.arrivals c.args.item.due c.args.net.now c.set_clock.new.net c.set_clock.ensures.past in
    let inputs : List (List ℕ) = inputs_of all c.args.net.now.journal in
    let answer =
    opens_then c.args.net.now c.set_clock.new.net inputs c.delivery-step.result
    (delivery c.args.item) c.step-stepped.result journal c.set_clock.ensures.topology c.delivery-step.ensures (c.requires.opens inputs before)
    (c.step-stepped.ensures.answer inputs (c.set_clock.ensures.stands inputs before)) in
    rw c.arrived_by.ensures
    (one_arrives c.args.arrivals c.args.item c.args.net.now c.set_clock.new.net c.step-stepped.new.self c.delivery-step.result c.step-stepped.result
    c.finish-played.result c.set_clock.ensures.past c.delivery-step.ensures answer c.step-stepped.ensures.longer
    (leaves _ _ _ c.step-stepped.ensures.left c.step-stepped.ensures.for_good)
    c.finish-played.ensures.ended)

pub returns-clause-after : goal.returns-clause-after
returns-clause-after g c =
    let journal = same_journal c.args.arrivals c.args.item.due c.args.net.now c.set_clock.new.net c.set_clock.ensures.past in
    rw c.arrived_by.ensures
    (after_one c.step-stepped.result c.finish-played.result c.set_clock.new.net c.step-stepped.new.self (g.W.Watch.packets c.args.watch.now)
    (g.W.Watch.stands c.args.watch.now) (g.W.Watch.stands c.finish-played.new.watch) (g.W.Watch.begins c.finish-played.new.watch)
    (set_on c.args.net.now c.set_clock.new.net (g.W.Watch.packets c.args.watch.now)
    (g.W.Watch.stands c.args.watch.now) journal c.set_clock.ensures.topology c.set_clock.ensures.stands c.requires.together)
    (leaves _ _ _ c.step-stepped.ensures.left c.step-stepped.ensures.for_good) c.finish-played.ensures.ended c.finish-played.ensures.after
    (err_then c.step-stepped.result _ _ c.finish-played.ensures.untouched (λ same t j i s. subst (λ w. g.W.Watch.stands w t j i) (sym same) s))
    (err_then c.step-stepped.result _ _ c.finish-played.ensures.untouched
    (λ same t j i s. subst (λ w. g.W.Watch.begins w t j i) (sym same) (g.met.W.Watch.begun c.args.watch.now t j i s))))

pub returns-clause-clock : goal.returns-clause-clock
returns-clause-clock g c =
    let journal = same_journal c.args.arrivals c.args.item.due c.args.net.now c.set_clock.new.net c.set_clock.ensures.past in
    rw c.arrived_by.ensures
    (one_paced c.step-stepped.result c.finish-played.result c.args.net.now c.set_clock.new.net c.step-stepped.new.self c.delivery-step.result
    c.args.item.due c.set_clock.ensures.clock c.requires.soon journal (ap ticks_in c.delivery-step.ensures ∙ c.requires.fits.2)
    c.step-stepped.ensures.longer c.finish-played.ensures.ended)

pub returns-clause-longer : goal.returns-clause-longer
returns-clause-longer g c =
    let journal = same_journal c.args.arrivals c.args.item.due c.args.net.now c.set_clock.new.net c.set_clock.ensures.past in
    rw c.arrived_by.ensures
    (one_longer c.step-stepped.result c.finish-played.result c.args.net.now c.set_clock.new.net c.step-stepped.new.self c.delivery-step.result
    journal c.step-stepped.ensures.longer c.finish-played.ensures.ended)

pub returns-clause-early : goal.returns-clause-early
returns-clause-early g c =
    let same = one_early c.step-stepped.result c.set_clock.new.net c.step-stepped.new.self c.delivery-step.result
    (ap ticks_in c.delivery-step.ensures ∙ c.requires.fits.2) c.step-stepped.ensures.longer
    (leaves _ _ _ c.step-stepped.ensures.left c.step-stepped.ensures.for_good) in
    omega (arith, same, c.set_clock.ensures.early)

pub returns-clause-grown : goal.returns-clause-grown
returns-clause-grown g c =
    let journal = same_journal c.args.arrivals c.args.item.due c.args.net.now c.set_clock.new.net c.set_clock.ensures.past in
    subst (λ j. IsFirstPart j c.step-stepped.new.self.journal) journal
    (step_grown c.step-stepped.result c.set_clock.new.net c.step-stepped.new.self c.delivery-step.result c.step-stepped.ensures.longer
    (leaves _ _ _ c.step-stepped.ensures.left c.step-stepped.ensures.for_good))

pub returns-clause-standing : goal.returns-clause-standing
returns-clause-standing g c =
    let journal = same_journal c.args.arrivals c.args.item.due c.args.net.now c.set_clock.new.net c.set_clock.ensures.past in
    let plain : injects c.delivery-step.result ≡ false = ap injects c.delivery-step.ensures ∙ c.requires.fits.1 in
    rw c.arrived_by.ensures
    (one_goes_on c.step-stepped.result c.finish-played.result c.args.net.now c.set_clock.new.net c.step-stepped.new.self c.delivery-step.result journal
    c.set_clock.ensures.stands plain c.step-stepped.ensures.longer c.step-stepped.ensures.stands c.finish-played.ensures.ended)

pub returns-clause-room : goal.returns-clause-room
returns-clause-room g c = λ frames more h.
    room_left c.step-stepped.result c.set_clock.new.net c.step-stepped.new.self (c.step-stepped.ensures.room (ap is_of_frames c.delivery-step.ensures ∙ frames))
    (leaves _ _ _ c.step-stepped.ensures.left c.step-stepped.ensures.for_good) more (c.set_clock.ensures.room (more + 1) h)
