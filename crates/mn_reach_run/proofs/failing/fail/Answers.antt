use Rattle.std.proofs.Common.{◌∙◌, ap}
use Rattle.mn_reach.specs.Reaching.{Reaching}
use Rattle.mn_reach_run.proofs.Switching.{made}
use Rattle.mn_reach_run.proofs.failing.fail.Goals as goal

pub returns-clause-failed : goal.returns-clause-failed
returns-clause-failed c = λ front some.
    let one = c.in_ok-switch_parts.ensures.same in
    let two = c.in_ok-end_sessions.ensures.same in
    made c.args.topology.now c.args.reach.now.ends front c.args.parts.now c.args.reach.now c.end_sessions.new.reach some
    (ap (λ (r : Reaching). r.failed) two ∙ ap (λ (r : Reaching). r.failed) one) (ap (λ (r : Reaching). r.ends) two ∙ ap (λ (r : Reaching). r.ends) one)
    (rw (ap (λ (r : Reaching). r.up) two) c.in_ok-switch_parts.ensures.up) (rw (ap (λ (r : Reaching). r.ldp) two) c.in_ok-switch_parts.ensures.ldp)
    (λ first second. rw (ap (λ (r : Reaching). r.ended) one) at (c.in_ok-end_sessions.ensures.ended first second))

pub returns-clause-plan : goal.returns-clause-plan
returns-clause-plan c = ap (λ (r : Reaching). r.plan) c.in_ok-end_sessions.ensures.same ∙ ap (λ (r : Reaching). r.plan) c.in_ok-switch_parts.ensures.same
