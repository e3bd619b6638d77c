use Rattle.std.proofs.Common.{◌<◌, arith}
use Rattle.mn_flight_pool.specs.Ticks.{tick_at, IsMissing}
use Rattle.mn_flight_pool.proofs.Ticks.{last_found, last_first, last_missing}
use Rattle.mn_flight_pool.proofs.tick.last_due_by.Goals as goal

pub returns-in-Ok : goal.returns-in-Ok
returns-in-Ok c = last_found c.args.due c.args.ticks.now c.in-Ok.i _ c.in-Ok.ensures c.args.head.index c.requires

pub returns-in-Err-eq0 : goal.returns-in-Err-eq0
returns-in-Err-eq0 c =
    last_first c.args.due c.args.ticks.now c.in-Err-eq0.field-0 (tick_at 0 c.args.head.index) c.in-Err-eq0.ensures c.args.head.index c.in-Err-eq0.field-0-test

pub returns-in-Err : goal.returns-in-Err
returns-in-Err c =
    let missing : IsMissing c.args.due c.args.ticks.now c.in-Err.i = c.in-Err.ensures in
    let pos : 0 < c.in-Err.i = omega (arith, c.in-Err.i-test.1) in
    last_missing c.args.due c.args.ticks.now c.in-Err.i _ missing c.args.head.index pos
