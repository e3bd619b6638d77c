use Rattle.mn_flight_pool.proofs.Ticks.{set_found, set_missing}
use Rattle.mn_flight_pool.specs.Ticks.{tick_at, IsFound, IsMissing}
use Rattle.mn_flight_pool.proofs.tick.renew.Goals as goal

pub returns-in-Ok-clause-ticks : goal.returns-in-Ok-clause-ticks
returns-in-Ok-clause-ticks c =
    let found : IsFound c.args.due c.args.ticks.now.items c.in-Ok.i = rw c.deref.ensures.value at c.in-Ok.ensures in
    set_found c.args.due c.args.ticks.now.items c.in-Ok.i (tick_at c.args.due c.args.node.index) found c.args.node.index

pub returns-in_default-clause-ticks : goal.returns-in_default-clause-ticks
returns-in_default-clause-ticks c =
    let missing : IsMissing c.args.due c.args.ticks.now.items c.in_default.field-0 = rw c.deref.ensures.value at c.in_default.ensures in
    set_missing c.args.due c.args.ticks.now.items c.in_default.field-0 (tick_at c.args.due c.args.node.index) missing c.args.node.index c.requires
