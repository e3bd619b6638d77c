use Rattle.std.proofs.Common.{◌∙◌, ap}
use Rattle.mn_reach.specs.Reaching.{Reaching}
use Rattle.mn_reach_run.proofs.Switching.{mended}
use Rattle.mn_reach_run.proofs.failing.mend.Goals as goal

pub returns-clause-mended : goal.returns-clause-mended
returns-clause-mended c = λ front apart some.
    let one = c.in_ok-switch_parts.ensures.same in
    let two = c.begin_sessions.ensures in
    mended c.args.topology.now c.args.reach.now.ends front c.args.parts.now c.args.reach.now c.begin_sessions.new.self apart some
    (ap (λ (r : Reaching). r.failed) two ∙ ap (λ (r : Reaching). r.failed) one) (ap (λ (r : Reaching). r.ends) two ∙ ap (λ (r : Reaching). r.ends) one)
    (rw (ap (λ (r : Reaching). r.up) two) c.in_ok-switch_parts.ensures.up) (rw (ap (λ (r : Reaching). r.ldp) two) c.in_ok-switch_parts.ensures.ldp)
    (ap (λ (r : Reaching). r.ended) two)

pub returns-clause-plan : goal.returns-clause-plan
returns-clause-plan c = ap (λ (r : Reaching). r.plan) c.begin_sessions.ensures ∙ ap (λ (r : Reaching). r.plan) c.in_ok-switch_parts.ensures.same
