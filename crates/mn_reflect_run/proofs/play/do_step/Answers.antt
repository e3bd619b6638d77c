use Rattle.mn_reflect_run.proofs.Courses.{step_done}
use Rattle.mn_reflect_run.proofs.play.do_step.Goals as goal

pub returns : goal.returns
returns c =
    step_done c.answer_of.result c.step.result c.args.reflect.now c.step.new.self c.args.done c.done-steps.result
    (λ topology reflectors before is takes. (
      c.step.ensures.refused topology reflectors before is takes,
      c.step.ensures.done topology reflectors before is takes,
      c.step.ensures.else_memory topology reflectors before is takes,
    )) c.done-steps.ensures c.answer_of.ensures
