use Rattle.std.proofs.Common.{◌≡◌, Some, sym, ◌∙◌, subst, arith}
use Rattle.mn_entry.specs.Damages.{entry_for, number_of}
use Rattle.mn_entry.proofs.Told.{damages_fit}
use Rattle.mn_course_laws.specs.Course.{inputs_of, record_of, damage_refused_by, played}
use Rattle.mn_script.specs.declared.command.Command.TheVariants.{Damage}
use Rattle.mn_sched.specs.Playing.{past_of, Takes, After}
use Rattle.mn_sched.proofs.Delivering.{first_part_refl}
use Rattle.mn_sched.proofs.Growing.{ok_then, err_then, by_damage, damage_takes_no_input, stood_by, made_by, fits_by, takes_by, entry_paced, grown_by}
use Rattle.mn_sched.proofs.Telling.{leaves, step_kept, finished_refused, after_step, after_fault, fault_takes, fault_missing, damaged_so, damaged_more}
use Rattle.mn_sched.proofs.line.damage.Goals as goal

pub returns-in-Ok-None-clause-after : goal.returns-in-Ok-None-clause-after
returns-in-Ok-None-clause-after g c = λ all told. ((c.requires.together all told).0, c.packet.follows.holds-at-none.3 _ _ _ (c.requires.together all told).1)

pub returns-in-Err-clause-course : goal.returns-in-Err-clause-course
returns-in-Err-clause-course g c = λ all told.
    rw c.stopped_by.ensures
    (fault_takes (played c.args.net.now.topology all (past_of c.args.net.now) (Damage c.args.damage)) c.args.net.now c.in-Err.bad
    (damaged_more c.args.net.now.topology all (past_of c.args.net.now) c.args.damage (record_of all (number_of c.args.damage))))

pub returns-in-Err-clause-after : goal.returns-in-Err-clause-after
returns-in-Err-clause-after g c =
    let rested = c.packet.follows.lender-at-none in
    rw c.stopped_by.ensures
    (after_fault c.in-Err.bad c.args.net.now (g.W.Watch.packets c.args.watch.now) (g.W.Watch.stands rested) (g.W.Watch.begins rested)
    (λ all told. (c.requires.together all told).0)
    (λ all told. g.met.W.Watch.begun rested _ _ _ (c.packet.follows.holds-at-none.3 _ _ _ (c.requires.together all told).1)))

pub returns-in-Err-clause-missing : goal.returns-in-Err-clause-missing
returns-in-Err-clause-missing g c = rw c.stopped_by.ensures (fault_missing _ c.in-Err.bad)

pub finish-requires : goal.finish-requires
finish-requires g c =
    let rested = c.packet.follows.lender-at-none in
    let held = c.packet.follows.holds-at-none in
    let net = c.args.net.now in
    let entry = entry_for net.tick c.args.damage in
    let long = ok_then c.damage-stepped.result _ _ c.damage-stepped.ensures.longer (by_damage net c.damage-stepped.new.self c.args.damage) in
    record {
      stood = stood_by c.damage-stepped.result net c.damage-stepped.new.self entry net.tick (λ inputs. inputs) (g.W.Watch.packets rested)
          (g.W.Watch.stands rested)
          (λ all told. let both = c.requires.together all (sym held.2 ∙ told) in (both.0, held.3 _ _ _ both.1))
          (λ all told. damage_takes_no_input all net.journal net.tick c.args.damage) long c.damage-stepped.ensures.stands;
      made = made_by c.damage-stepped.result net c.damage-stepped.new.self entry net.tick (λ inputs. inputs) (g.W.Watch.packets rested)
          (g.W.Watch.stands rested)
          (λ all told. let both = c.requires.together all (sym held.2 ∙ told) in (both.0, held.3 _ _ _ both.1))
          (λ all told. damage_takes_no_input all net.journal net.tick c.args.damage) long c.damage-stepped.ensures.stands
          c.damage-stepped.ensures.first c.damage-stepped.ensures.end;
      fitting = fits_by c.damage-stepped.result net c.damage-stepped.new.self entry net.tick (damages_fit net.topology net.tick c.args.damage c.requires.fits)
          long;
    }

pub returns-clause-course : goal.returns-clause-course
returns-clause-course g c = λ all told.
    let net = c.args.net.now in
    let number = c.number_of.ensures in
    let found = rw c.in-Ok-Some.field-0-is at c.in-Ok-Some.ensures.found in
    let answer = c.damage-stepped.ensures.answer (inputs_of all net.journal) (c.requires.together all told).0 in
    subst (λ x. Takes x c.damage-stepped.new.self c.finish.result)
    (damaged_so net.topology all (past_of net) c.args.damage c.in-Ok-Some.bytes.now
    (subst (λ n. record_of all n ≡ Some c.in-Ok-Some.bytes.now) number (found.1 all told)))
    (takes_by net c.damage-stepped.new.self (entry_for net.tick c.args.damage) net.tick
    (damage_refused_by net.topology all (past_of net) c.args.damage c.in-Ok-Some.bytes.now) c.damage-stepped.result c.finish.result answer
    (ok_then c.damage-stepped.result _ _ c.damage-stepped.ensures.longer (by_damage net c.damage-stepped.new.self c.args.damage))
    (leaves _ _ _ c.damage-stepped.ensures.left c.damage-stepped.ensures.for_good) c.finish.ensures.ended)

pub returns-clause-after : goal.returns-clause-after
returns-clause-after g c =
    let rested = c.packet.follows.lender-at-none in
    let held = c.packet.follows.holds-at-none in
    subst (λ p. After c.damage-stepped.new.self p (g.W.Watch.stands c.finish.new.watch) (g.W.Watch.begins c.finish.new.watch) c.finish.result) held.2
    (after_step c.damage-stepped.result c.finish.result c.args.net.now c.damage-stepped.new.self (g.W.Watch.packets rested) (g.W.Watch.stands rested)
    (g.W.Watch.stands c.finish.new.watch) (g.W.Watch.begins c.finish.new.watch)
    (λ all told. let both = c.requires.together all (sym held.2 ∙ told) in (both.0, held.3 _ _ _ both.1))
    (leaves _ _ _ c.damage-stepped.ensures.left c.damage-stepped.ensures.for_good) c.finish.ensures.ended c.finish.ensures.after
    (err_then c.damage-stepped.result _ _ c.finish.ensures.untouched (λ same t j i s. subst (λ w. g.W.Watch.stands w t j i) (sym same) s))
    (err_then c.damage-stepped.result _ _ c.finish.ensures.untouched
    (λ same t j i s. subst (λ w. g.W.Watch.begins w t j i) (sym same) (g.met.W.Watch.begun rested t j i s))))

pub returns-clause-goes_on : goal.returns-clause-goes_on
returns-clause-goes_on g c = g.met.W.Watch.onward _ _ _ c.packet.follows.holds-at-none.4 c.finish.ensures.goes_on

pub returns-clause-clock : goal.returns-clause-clock
returns-clause-clock g c =
    let net = c.args.net.now in
    entry_paced c.damage-stepped.result c.finish.result net c.damage-stepped.new.self (entry_for net.tick c.args.damage) net.tick (omega arith)
    (ok_then c.damage-stepped.result _ _ c.damage-stepped.ensures.longer (by_damage net c.damage-stepped.new.self c.args.damage))
    (leaves _ _ _ c.damage-stepped.ensures.left c.damage-stepped.ensures.for_good) c.finish.ensures.ended

pub returns-clause-kept : goal.returns-clause-kept
returns-clause-kept g c =
    step_kept c.damage-stepped.result c.finish.result c.args.net.now c.damage-stepped.new.self
    (leaves _ _ _ c.damage-stepped.ensures.left c.damage-stepped.ensures.for_good) c.finish.ensures.ended

pub returns-clause-refused : goal.returns-clause-refused
returns-clause-refused g c = finished_refused c.damage-stepped.result c.finish.result c.finish.ensures.ended

pub returns-clause-grown : goal.returns-clause-grown
returns-clause-grown g c =
    let net = c.args.net.now in
    grown_by c.damage-stepped.result net c.damage-stepped.new.self (entry_for net.tick c.args.damage) net.tick
    (ok_then c.damage-stepped.result _ _ c.damage-stepped.ensures.longer (by_damage net c.damage-stepped.new.self c.args.damage))
    (leaves _ _ _ c.damage-stepped.ensures.left c.damage-stepped.ensures.for_good)

pub returns-in-Ok-None-clause-grown : goal.returns-in-Ok-None-clause-grown
returns-in-Ok-None-clause-grown g c = first_part_refl c.args.net.now.journal

pub returns-in-Err-clause-grown : goal.returns-in-Err-clause-grown
returns-in-Err-clause-grown g c = first_part_refl c.args.net.now.journal
