use Rattle.std.proofs.Common.{sym, subst}
use Rattle.mn_course_laws.specs.declared.coming.Arrivals.TheVariants.{News, AllFrames}
use Rattle.mn_join_laws.specs.Course.{played, deliver}
use Rattle.mn_join.specs.Plays.{Plays}
use Rattle.mn_join.specs.Moves.{Takes}
use Rattle.mn_join.proofs.Coursing.{takes_plays}
use Rattle.mn_join.proofs.pair.Pair.line.Goals as goal

pub returns-in-Do-clause-course : goal.returns-in-Do-clause-course
returns-in-Do-clause-course c = λ pairing both stands.
    subst (λ x. Plays pairing (played pairing c.args.which both x c.args.packet.now) c.do_step.new.self c.do_step.result) (sym c.in-Do.is)
    (c.do_step.ensures.course pairing both stands)

pub returns-in-Damage-clause-course : goal.returns-in-Damage-clause-course
returns-in-Damage-clause-course c = λ pairing both stands.
    subst (λ x. Plays pairing (played pairing c.args.which both x c.args.packet.now) c.do_damage.new.self c.do_damage.result) (sym c.in-Damage.is)
    (c.do_damage.ensures.course pairing both stands)

pub returns-in-Drain-clause-course : goal.returns-in-Drain-clause-course
returns-in-Drain-clause-course c = λ pairing both stands.
    subst (λ x. Plays pairing (played pairing c.args.which both x c.args.packet.now) c.deliver.new.self c.as_played.result) (sym c.in-Drain.is)
    (rw c.as_played.ensures
    (takes_plays pairing _ c.args.self.now c.deliver.new.self c.deliver.result c.requires.fresh
    (subst (λ n. Takes pairing (deliver pairing c.args.which News n both) c.args.self.now c.deliver.new.self c.deliver.result) c.most_of.ensures
    (c.deliver.ensures.takes pairing both stands))))

pub returns-in-Flush-clause-course : goal.returns-in-Flush-clause-course
returns-in-Flush-clause-course c = λ pairing both stands.
    subst (λ x. Plays pairing (played pairing c.args.which both x c.args.packet.now) c.deliver-in-Flush.new.self c.as_played-in-Flush.result)
    (sym c.in-Flush.is)
    (rw c.as_played-in-Flush.ensures
    (takes_plays pairing _ c.args.self.now c.deliver-in-Flush.new.self c.deliver-in-Flush.result c.requires.fresh
    (subst (λ n. Takes pairing (deliver pairing c.args.which AllFrames n both) c.args.self.now c.deliver-in-Flush.new.self c.deliver-in-Flush.result)
    c.all_items.ensures (c.deliver-in-Flush.ensures.takes pairing both stands))))
