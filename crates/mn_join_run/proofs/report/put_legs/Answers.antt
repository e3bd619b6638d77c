use Rattle.mn_tables.proofs.Telling.{told_nothing, told_next, tells_cut, tells_all}
use Rattle.mn_join_run.specs.Report.{leg_text}
use Rattle.mn_join_run.proofs.report.put_legs.Goals as goal

pub loop-leg-init : goal.loop-leg-init
loop-leg-init g c = λ pairing both stands are. told_nothing _

pub loop-leg-preserved : goal.loop-leg-preserved
loop-leg-preserved g c = λ pairing both stands are.
    told_next (leg_text pairing both) c.args.legs.now c.loop-leg.leg-index _ _ _ _ c.loop-leg-test.true (c.loop-leg.invariant pairing both stands are)
    (c.in_ok-put_leg.ensures pairing both stands are)

pub returns-in_err-put_leg : goal.returns-in_err-put_leg
returns-in_err-put_leg g c = λ pairing both stands are.
    tells_cut (leg_text pairing both) c.args.legs.now c.loop-leg.leg-index _ _ _ _ _ _ c.from_residual.ensures c.loop-leg-test.true
    (c.loop-leg.invariant pairing both stands are) (c.in_err-put_leg.ensures pairing both stands are)

pub returns : goal.returns
returns g c = λ pairing both stands are.
    tells_all (leg_text pairing both) c.args.legs.now c.loop-leg.leg-index _ _ c.loop-leg-test.false (c.loop-leg.invariant pairing both stands are)
