use Rattle.std.proofs.Common.{◌≡◌, ◌+◌, ◌<◌, arith, subst}
use Rattle.mn_course_laws.specs.Course.{all}
use Rattle.mn_net.specs.Prelude.{HasRoom}
use Rattle.mn_sched.proofs.line.keep_room.Goals as goal

-- where a frame flies there is a step to make room for
pub returns-in-Ok-clause-room : goal.returns-in-Ok-clause-room
unfolding all
returns-in-Ok-clause-room c = λ flush rooms inputs stands some.
    let most : c.all_items.result ≡ 4000001 = c.all_items.ensures in
    let some_steps : 0 < c.min-steps.result = omega (arith, c.pending.ensures.told inputs stands, some, c.min-steps.ensures, most, c.from.ensures) in
    let steps : c.min-steps.result ≡ c.saturating_sub.result + 1 = omega (arith, some_steps, c.saturating_sub.ensures) in
    subst (HasRoom c.reserve.new.self) steps c.in-Ok.ensures.room
