use Rattle.std.proofs.Common.{[], sym, subst}
use Rattle.mn_course_laws.specs.Course.{inputs_of, refusal_now}
use Rattle.mn_sched.specs.Playing.{past_of, Takes}
use Rattle.mn_sched.proofs.Growing.{err_then}
use Rattle.mn_sched.proofs.Telling.{leaves, made_last, last_fits, step_paced, few_ticks, step_grown, step_kept, finished_refused, stood, takes_no_input}
use Rattle.mn_sched.proofs.Telling.{step_takes, stepped_plain, after_step, step_goes_on}
use Rattle.mn_sched.proofs.line.step_plainly.Goals as goal

pub finish-requires : goal.finish-requires
finish-requires g c =
    record {
      stood = stood c.step-stepped.result c.args.net.now c.step-stepped.new.self c.args.step [] (g.W.Watch.packets c.args.watch.now)
          (g.W.Watch.stands c.args.watch.now) c.requires.together
          (λ all told. takes_no_input all c.args.net.now.journal c.args.net.now.tick c.args.step [] c.requires.plain) c.step-stepped.ensures.longer
          c.step-stepped.ensures.stands;
      made = made_last c.step-stepped.result c.args.net.now c.step-stepped.new.self c.args.step [] (g.W.Watch.packets c.args.watch.now)
          (g.W.Watch.stands c.args.watch.now) c.requires.together
          (λ all told. takes_no_input all c.args.net.now.journal c.args.net.now.tick c.args.step [] c.requires.plain) c.step-stepped.ensures.longer
          c.step-stepped.ensures.stands c.step-stepped.ensures.first c.step-stepped.ensures.end;
      fitting = last_fits c.step-stepped.result c.args.net.now c.step-stepped.new.self c.args.step c.requires.fits c.step-stepped.ensures.longer;
    }

pub returns-clause-course : goal.returns-clause-course
returns-clause-course g c = λ all before.
    let net = c.args.net.now in
    let answer = c.step-stepped.ensures.answer (inputs_of all net.journal) before in
    subst (λ x. Takes x c.step-stepped.new.self c.finish.result) (stepped_plain net.topology all (past_of net) c.args.step c.requires.plain)
    (step_takes net c.step-stepped.new.self c.args.step (refusal_now net.topology all (past_of net) c.args.step []) c.step-stepped.result c.finish.result
    answer c.step-stepped.ensures.longer (leaves _ _ _ c.step-stepped.ensures.left c.step-stepped.ensures.for_good) c.finish.ensures.ended)

pub returns-clause-after : goal.returns-clause-after
returns-clause-after g c =
    after_step c.step-stepped.result c.finish.result c.args.net.now c.step-stepped.new.self (g.W.Watch.packets c.args.watch.now)
    (g.W.Watch.stands c.args.watch.now) (g.W.Watch.stands c.finish.new.watch)
    (g.W.Watch.begins c.finish.new.watch) c.requires.together
    (leaves _ _ _ c.step-stepped.ensures.left c.step-stepped.ensures.for_good) c.finish.ensures.ended c.finish.ensures.after
    (err_then c.step-stepped.result _ _ c.finish.ensures.untouched (λ same t j i s. subst (λ w. g.W.Watch.stands w t j i) (sym same) s))
    (err_then c.step-stepped.result _ _ c.finish.ensures.untouched
    (λ same t j i s. subst (λ w. g.W.Watch.begins w t j i) (sym same) (g.met.W.Watch.begun c.args.watch.now t j i s)))

pub returns-clause-clock : goal.returns-clause-clock
returns-clause-clock g c =
    step_paced c.step-stepped.result c.finish.result c.args.net.now c.step-stepped.new.self c.args.step
    (few_ticks c.args.net.now.topology c.args.step c.requires.fits) c.step-stepped.ensures.longer
    (leaves _ _ _ c.step-stepped.ensures.left c.step-stepped.ensures.for_good) c.finish.ensures.ended

pub returns-clause-kept : goal.returns-clause-kept
returns-clause-kept g c =
    step_kept c.step-stepped.result c.finish.result c.args.net.now c.step-stepped.new.self
    (leaves _ _ _ c.step-stepped.ensures.left c.step-stepped.ensures.for_good) c.finish.ensures.ended

pub returns-clause-refused : goal.returns-clause-refused
returns-clause-refused g c = finished_refused c.step-stepped.result c.finish.result c.finish.ensures.ended

pub returns-clause-grown : goal.returns-clause-grown
returns-clause-grown g c =
    step_grown c.step-stepped.result c.args.net.now c.step-stepped.new.self c.args.step c.step-stepped.ensures.longer
    (leaves _ _ _ c.step-stepped.ensures.left c.step-stepped.ensures.for_good)

pub returns-clause-standing : goal.returns-clause-standing
returns-clause-standing g c =
    step_goes_on c.step-stepped.result c.finish.result c.args.net.now c.step-stepped.new.self c.args.step c.requires.plain c.step-stepped.ensures.longer
    (leaves _ _ _ c.step-stepped.ensures.left c.step-stepped.ensures.for_good) c.step-stepped.ensures.stands c.finish.ensures.ended
