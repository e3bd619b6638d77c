use Rattle.std.proofs.Common.{sym, ◌∙◌, subst}
use Rattle.mn_course_laws.specs.Course.{inputs_of, refusal_now, stepped}
use Rattle.mn_sched.specs.Playing.{past_of, Takes}
use Rattle.mn_sched.specs.Playing.{After}
use Rattle.mn_sched.proofs.Growing.{err_then}
use Rattle.mn_sched.proofs.Telling.{leaves, made_last, last_fits, step_paced, few_ticks, step_grown, step_kept, finished_refused, stood, takes_input}
use Rattle.mn_sched.proofs.Telling.{step_takes, stepped_inject, stepped_more}
use Rattle.mn_sched.proofs.Telling.{after_step, after_fault}
use Rattle.mn_sched.proofs.Delivering.{first_part_refl}
use Rattle.mn_sched.proofs.Telling.{fault_takes, fault_missing}
use Rattle.mn_sched.proofs.line.inject.Goals as goal

pub returns-in-Ok-None-clause-after : goal.returns-in-Ok-None-clause-after
returns-in-Ok-None-clause-after g c = λ all told. ((c.requires.together all told).0, c.packet.follows.holds-at-none.3 _ _ _ (c.requires.together all told).1)

pub returns-in-Err-clause-course : goal.returns-in-Err-clause-course
returns-in-Err-clause-course g c = λ all told.
    rw c.stopped_by.ensures
    (fault_takes (stepped c.args.net.now.topology all (past_of c.args.net.now) c.args.step) c.args.net.now c.in-Err.bad
    (stepped_more c.args.net.now.topology all (past_of c.args.net.now) c.args.step))

pub returns-in-Err-clause-after : goal.returns-in-Err-clause-after
returns-in-Err-clause-after g c =
    let rested = c.packet.follows.lender-at-none in
    rw c.stopped_by.ensures
    (after_fault c.in-Err.bad c.args.net.now (g.W.Watch.packets c.args.watch.now) (g.W.Watch.stands rested) (g.W.Watch.begins rested)
    (λ all told. (c.requires.together all told).0)
    (λ all told. g.met.W.Watch.begun rested _ _ _ (c.packet.follows.holds-at-none.3 _ _ _ (c.requires.together all told).1)))

pub returns-in-Err-clause-missing : goal.returns-in-Err-clause-missing
returns-in-Err-clause-missing g c = rw c.stopped_by.ensures (fault_missing _ c.in-Err.bad)

pub finish-requires : goal.finish-requires
finish-requires g c =
    let rested = c.packet.follows.lender-at-none in
    let held = c.packet.follows.holds-at-none in
    let net = c.args.net.now in
    let found = rw c.in-Ok-Some.field-0-is at c.in-Ok-Some.ensures.found in
    record {
      stood = stood c.step-stepped.result net c.step-stepped.new.self c.args.step c.in-Ok-Some.bytes.now (g.W.Watch.packets rested) (g.W.Watch.stands rested)
          (λ all told. let both = c.requires.together all (sym held.2 ∙ told) in (both.0, held.3 _ _ _ both.1))
          (λ all told. takes_input all net.journal net.tick c.args.step c.requires.injects.0 c.args.number c.in-Ok-Some.bytes.now c.requires.injects.1
          (found.1 all (sym held.2 ∙ told)))
          c.step-stepped.ensures.longer c.step-stepped.ensures.stands;
      made = made_last c.step-stepped.result net c.step-stepped.new.self c.args.step c.in-Ok-Some.bytes.now (g.W.Watch.packets rested)
          (g.W.Watch.stands rested)
          (λ all told. let both = c.requires.together all (sym held.2 ∙ told) in (both.0, held.3 _ _ _ both.1))
          (λ all told. takes_input all net.journal net.tick c.args.step c.requires.injects.0 c.args.number c.in-Ok-Some.bytes.now c.requires.injects.1
          (found.1 all (sym held.2 ∙ told)))
          c.step-stepped.ensures.longer c.step-stepped.ensures.stands c.step-stepped.ensures.first c.step-stepped.ensures.end;
      fitting = last_fits c.step-stepped.result net c.step-stepped.new.self c.args.step c.requires.fits c.step-stepped.ensures.longer;
    }

pub returns-clause-course : goal.returns-clause-course
returns-clause-course g c = λ all told.
    let net = c.args.net.now in
    let found = rw c.in-Ok-Some.field-0-is at c.in-Ok-Some.ensures.found in
    let answer = c.step-stepped.ensures.answer (inputs_of all net.journal) (c.requires.together all told).0 in
    subst (λ x. Takes x c.step-stepped.new.self c.finish.result)
    (stepped_inject net.topology all (past_of net) c.args.step c.requires.injects.0 c.args.number c.in-Ok-Some.bytes.now c.requires.injects.1
    (found.1 all told))
    (step_takes net c.step-stepped.new.self c.args.step
    (refusal_now net.topology all (past_of net) c.args.step c.in-Ok-Some.bytes.now) c.step-stepped.result c.finish.result answer
    c.step-stepped.ensures.longer (leaves _ _ _ c.step-stepped.ensures.left c.step-stepped.ensures.for_good) c.finish.ensures.ended)

pub returns-clause-after : goal.returns-clause-after
returns-clause-after g c =
    let rested = c.packet.follows.lender-at-none in
    let held = c.packet.follows.holds-at-none in
    subst (λ p. After c.step-stepped.new.self p (g.W.Watch.stands c.finish.new.watch) (g.W.Watch.begins c.finish.new.watch) c.finish.result) held.2
    (after_step c.step-stepped.result c.finish.result c.args.net.now c.step-stepped.new.self (g.W.Watch.packets rested) (g.W.Watch.stands rested)
    (g.W.Watch.stands c.finish.new.watch) (g.W.Watch.begins c.finish.new.watch)
    (λ all told. let both = c.requires.together all (sym held.2 ∙ told) in (both.0, held.3 _ _ _ both.1))
    (leaves _ _ _ c.step-stepped.ensures.left c.step-stepped.ensures.for_good) c.finish.ensures.ended c.finish.ensures.after
    (err_then c.step-stepped.result _ _ c.finish.ensures.untouched (λ same t j i s. subst (λ w. g.W.Watch.stands w t j i) (sym same) s))
    (err_then c.step-stepped.result _ _ c.finish.ensures.untouched
    (λ same t j i s. subst (λ w. g.W.Watch.begins w t j i) (sym same) (g.met.W.Watch.begun rested t j i s))))

pub returns-clause-goes_on : goal.returns-clause-goes_on
returns-clause-goes_on g c = g.met.W.Watch.onward _ _ _ c.packet.follows.holds-at-none.4 c.finish.ensures.goes_on

pub returns-clause-clock : goal.returns-clause-clock
returns-clause-clock g c =
    step_paced c.step-stepped.result c.finish.result c.args.net.now c.step-stepped.new.self c.args.step
    (few_ticks c.args.net.now.topology c.args.step c.requires.fits) c.step-stepped.ensures.longer
    (leaves _ _ _ c.step-stepped.ensures.left c.step-stepped.ensures.for_good) c.finish.ensures.ended

pub returns-clause-kept : goal.returns-clause-kept
returns-clause-kept g c =
    step_kept c.step-stepped.result c.finish.result c.args.net.now c.step-stepped.new.self
    (leaves _ _ _ c.step-stepped.ensures.left c.step-stepped.ensures.for_good) c.finish.ensures.ended

pub returns-clause-refused : goal.returns-clause-refused
returns-clause-refused g c = finished_refused c.step-stepped.result c.finish.result c.finish.ensures.ended

pub returns-clause-grown : goal.returns-clause-grown
returns-clause-grown g c =
    step_grown c.step-stepped.result c.args.net.now c.step-stepped.new.self c.args.step c.step-stepped.ensures.longer
    (leaves _ _ _ c.step-stepped.ensures.left c.step-stepped.ensures.for_good)

pub returns-in-Ok-None-clause-grown : goal.returns-in-Ok-None-clause-grown
returns-in-Ok-None-clause-grown g c = first_part_refl c.args.net.now.journal

pub returns-in-Err-clause-grown : goal.returns-in-Err-clause-grown
returns-in-Err-clause-grown g c = first_part_refl c.args.net.now.journal
