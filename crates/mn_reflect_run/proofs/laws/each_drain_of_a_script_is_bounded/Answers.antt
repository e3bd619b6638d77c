use Rattle.std.proofs.Common.{◌≡◌, ◌∷◌, true, ap, arith, length, length-append, subst, sym}
use Rattle.mn_base.proofs.Members.{In, in_front}
use Rattle.mn_reflect_telling.specs.Mentions.{numbers_of}
use Rattle.mn_reflect_run.specs.declared.command.ReflectLine.{ReflectLine}
use Rattle.mn_reflect_run.specs.Language.{command_fits}
use Rattle.mn_reflect_run.specs.Course.{ReflectRun, most_of, run_of}
use Rattle.mn_reflect_run.proofs.Sound.{course_sound, all_named, in_all}
use Rattle.mn_reflect_run.proofs.Drains.{peers_are, drain_hears, drain_course, quiet}
use Rattle.mn_reflect_run.proofs.laws.each_drain_of_a_script_is_bounded.Goals as goal

pub returns : goal.returns
returns c = λ topology script lawful is front back line most same is_drain goes.
    let reflectors = numbers_of script.reflectors in
    let sound = course_sound topology reflectors front lawful is.reflectors
    (λ x i. in_all (λ (y : ReflectLine). command_fits topology reflectors y.command ≡ true) script.lines x is.fit
    (subst (λ lines. In lines x) (sym same) (in_front front (line ∷ back) x i))) in
    let run = run_of topology reflectors front in
    let heard = drain_hears topology reflectors (most_of most) run sound.lawful in
    record {
      bounded = omega (
        arith,
        c.a_drain_with_reflectors_is_bounded.ensures topology reflectors run.steps heard.hearings
            (all_named topology reflectors lawful is.reflectors run.steps sound.lawful.taken) is.reflectors
            (peers_are topology reflectors run.steps sound.lawful.taken) heard.drain,
        ap (λ (r : ReflectRun). length r.steps) (drain_course topology reflectors front line most is_drain goes),
        ap length heard.steps,
        length-append run.steps heard.hearings,
      );
      quiet = quiet topology reflectors front line most is_drain goes;
    }
