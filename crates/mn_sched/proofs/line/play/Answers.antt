use Rattle.std.proofs.Common.{sym, subst}
use Rattle.mn_script.specs.declared.command.Command.{Command}
use Rattle.mn_course_laws.specs.declared.coming.Arrivals.TheVariants.{AllFrames}
use Rattle.mn_course_laws.specs.Course.{deliver, played}
use Rattle.mn_sched.specs.Playing.{past_of, Arrives, Takes, as_played}
use Rattle.mn_sched.proofs.Telling.{arrived_takes}
use Rattle.mn_sched.proofs.line.play.Goals as goal

pub returns-in-Flush-clause-course : goal.returns-in-Flush-clause-course
returns-in-Flush-clause-course g c = λ capture told.
    let net = c.args.net.now in
    subst (Takes (played net.topology capture (past_of net) c.args.command.now) c.deliver.new.net) (sym c.as_played.ensures)
    (subst (λ (k : Command). Takes (played net.topology capture (past_of net) k) c.deliver.new.net (as_played c.deliver.result)) (sym c.in-Flush.is)
    (arrived_takes _ c.deliver.new.net c.deliver.result
    (subst (λ n. Arrives (deliver net.topology capture AllFrames n (past_of net)) c.deliver.new.net c.deliver.result) c.all_items.ensures
    (c.deliver.ensures.course capture (c.requires.together capture told).0))))
