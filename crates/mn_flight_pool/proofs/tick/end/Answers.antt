use Rattle.std.proofs.Common.{◌∙◌}
use Rattle.mn_flight_pool.proofs.Ticks.{drop_found, drop_missing}
use Rattle.mn_flight_pool.specs.Ticks.{tick_at, IsFound, IsMissing}
use Rattle.mn_flight_pool.proofs.tick.end.Goals as goal

pub returns-in-Ok-clause-ticks : goal.returns-in-Ok-clause-ticks
returns-in-Ok-clause-ticks c =
    let found : IsFound c.args.due c.args.ticks.now.items c.in-Ok.i = rw c.deref.ensures.value at c.in-Ok.ensures in
    c.remove.ensures.items ∙ drop_found c.args.due c.args.ticks.now.items c.in-Ok.i c.remove.result found

pub returns-in_default-clause-ticks : goal.returns-in_default-clause-ticks
returns-in_default-clause-ticks c =
    let missing : IsMissing c.args.due c.args.ticks.now.items c.in_default.field-0 = rw c.deref.ensures.value at c.in_default.ensures in
    drop_missing c.args.due c.args.ticks.now.items c.in_default.field-0 (tick_at 0 0) missing c.requires
