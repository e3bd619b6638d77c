use Rattle.std.proofs.Common.{◌≡◌, ◌+◌, ◌-◌, arith, subst}
use Rattle.mn_net_laws.specs.Now.{HasRoom}
use Rattle.mn_room.proofs.carry_all.Goals as goal

pub loop-turn-preserved : goal.loop-turn-preserved
loop-turn-preserved c =
    let left = c.args.steps - (c.loop-turn.turn + 1) in
    let one_less : c.args.steps - c.loop-turn.turn ≡ left + 1 = omega (arith, c.loop-turn-test.true) in
    c.in_ok-done.ensures.room c.frame_step-step.ensures left (subst (λ room. HasRoom c.loop-turn.net room) one_less c.loop-turn.invariant)
