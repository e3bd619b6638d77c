use Rattle.std.proofs.Common.{◌<◌, ◌+◌, ◌-◌, ◌/◌, ℕ, length, arith}
use Rattle.mn_flight_pool.specs.Ticks.{earlier}
use Rattle.mn_flight_pool.proofs.Ticks.{earlier_within, earlier_past, earlier_upto}
use Rattle.mn_flight_pool.proofs.tick.before.Goals as goal

pub loop-low-init : goal.loop-low-init
loop-low-init c = (omega arith, earlier_within c.args.due c.args.ticks.now, omega arith)

pub loop-low-preserved-then-ticks-middle : goal.loop-low-preserved-then-ticks-middle
loop-low-preserved-then-ticks-middle c =
    let middle : ℕ = c.loop-low.low + (c.loop-low.high - c.loop-low.low) / 2 in
    let below : middle < length c.args.ticks.now = omega (arith, c.loop-low.invariant.2, c.loop-low-test.true) in
    let past : middle < earlier c.args.due c.args.ticks.now = earlier_past c.args.due c.args.ticks.now middle _ c.requires below c.if-ticks-middle.true in
    (omega (arith, past), c.loop-low.invariant.1, c.loop-low.invariant.2)

pub loop-low-preserved : goal.loop-low-preserved
loop-low-preserved c =
    let middle : ℕ = c.loop-low.low + (c.loop-low.high - c.loop-low.low) / 2 in
    let below : middle < length c.args.ticks.now = omega (arith, c.loop-low.invariant.2, c.loop-low-test.true) in
    (c.loop-low.invariant.0, earlier_upto c.args.due c.args.ticks.now middle _ below c.if-ticks-middle.false, omega (arith, below))
