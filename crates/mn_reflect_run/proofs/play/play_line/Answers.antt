use Rattle.std.proofs.Common.{subst}
use Rattle.std.specs.Prelude.{IfOk}
use Rattle.mn_reflect_run.proofs.Courses.{DoesStep, line_follows, line_drains, line_shows}
use Rattle.mn_reflect_run.proofs.play.play_line.Goals as goal

pub returns-in-Do : goal.returns-in-Do
returns-in-Do c =
    line_follows c.do_step.result c.args.line c.args.reflect.now c.do_step.new.reflect c.in-Do.step c.in-Do.is
    (subst (λ done. IfOk c.do_step.result (DoesStep done c.args.reflect.now c.do_step.new.reflect)) c.in-Do.step-is c.do_step.ensures)

pub returns-in-Drain : goal.returns-in-Drain
returns-in-Drain c = line_drains c.drain.result c.args.line c.args.reflect.now c.drain.new.reflect c.in-Drain.most _ c.in-Drain.is c.most_of.ensures
    c.drain.ensures

pub returns-in-Show : goal.returns-in-Show
returns-in-Show c = line_shows c.args.line c.args.reflect.now _ c.in-Show.is
