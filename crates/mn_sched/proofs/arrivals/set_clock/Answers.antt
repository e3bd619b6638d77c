use Rattle.std.proofs.Common.{◌≡◌, subst, max}
use Rattle.mn_sched.proofs.Onward.{sets_clock}
use Rattle.mn_sched.proofs.arrivals.set_clock.Goals as goal

pub advance-requires-clause-due : goal.advance-requires-clause-due
advance-requires-clause-due c =
    sets_clock c.args.arrivals c.args.net.now c.args.due c.max.result c.in_default.not-News
    (subst (λ tick. c.max.result ≡ max tick c.args.due) c.tick.ensures c.max.ensures) c.requires.first
