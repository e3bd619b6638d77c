use Rattle.std.proofs.Common.{◌∙◌, sym, ap, []}
use Rattle.std.specs.Prelude.{◌==◌, if◌then◌else◌, Ok}
use Rattle.mn_base.proofs.Bools.{test_same, other_test}
use Rattle.mn_failures.specs.Failures.{two_with, three_with, first_with}
use Rattle.mn_reach_run.proofs.Sweeping.{sweeps_none, sweeps_as}
use Rattle.mn_reach_run.proofs.sweep.play_first.Goals as goal

pub returns-then-is_outside-clause-told : goal.returns-then-is_outside-clause-told
returns-then-is_outside-clause-told g c =
    sweeps_as c.args.at.topology.now c.args.at.settings c.args.at.line []
    (first_with c.args.at.topology.now c.args.asked.many c.args.asked.from c.args.asked.to c.args.first) _ _ (Ok tt)
    (sym (ap (λ b. if b then [] else if c.args.asked.many == 2 then two_with c.args.at.topology.now c.args.first else three_with c.args.at.topology.now
    c.args.first)
    (sym c.is_outside.ensures ∙ c.if-is_outside.true))) (sweeps_none c.args.at.topology.now c.args.at.settings c.args.at.line _)

pub returns-then-asked-eq2-clause-told : goal.returns-then-asked-eq2-clause-told
returns-then-asked-eq2-clause-told g c =
    sweeps_as c.args.at.topology.now c.args.at.settings c.args.at.line (two_with c.args.at.topology.now c.args.first)
    (first_with c.args.at.topology.now c.args.asked.many c.args.asked.from c.args.asked.to c.args.first) _ _ c.play_two.result
    (sym (ap (λ b. if b then [] else if c.args.asked.many == 2 then two_with c.args.at.topology.now c.args.first else three_with c.args.at.topology.now
    c.args.first)
    (sym c.is_outside.ensures ∙ c.if-is_outside.false)
    ∙ ap (λ b. if b then two_with c.args.at.topology.now c.args.first else three_with c.args.at.topology.now c.args.first)
    (test_same c.args.asked.many 2 c.if-asked-eq2.true))) c.play_two.ensures.told

pub returns-else-asked-eq2-clause-told : goal.returns-else-asked-eq2-clause-told
returns-else-asked-eq2-clause-told g c =
    sweeps_as c.args.at.topology.now c.args.at.settings c.args.at.line (three_with c.args.at.topology.now c.args.first)
    (first_with c.args.at.topology.now c.args.asked.many c.args.asked.from c.args.asked.to c.args.first) _ _ c.play_three.result
    (sym (ap (λ b. if b then [] else if c.args.asked.many == 2 then two_with c.args.at.topology.now c.args.first else three_with c.args.at.topology.now
    c.args.first)
    (sym c.is_outside.ensures ∙ c.if-is_outside.false)
    ∙ ap (λ b. if b then two_with c.args.at.topology.now c.args.first else three_with c.args.at.topology.now c.args.first)
    (other_test c.args.asked.many 2 c.if-asked-eq2.false))) c.play_three.ensures.told
