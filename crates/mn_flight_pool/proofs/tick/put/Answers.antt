use Rattle.std.proofs.Common.{◌≡◌, true, ap, ◌∙◌}
use Rattle.std.specs.Prelude.{is_ok, insert, cond}
use Rattle.mn_flight_pool.proofs.Ticks.{put_found, put_missing}
use Rattle.mn_flight_pool.specs.Ticks.{tick_at, IsFound, IsMissing}
use Rattle.mn_flight_pool.proofs.tick.put.Goals as goal

pub returns-in-Ok-clause-ticks : goal.returns-in-Ok-clause-ticks
returns-in-Ok-clause-ticks c =
    let found : IsFound c.args.due c.args.ticks.now.items c.in-Ok.i = rw c.deref.ensures.value at c.in-Ok.ensures in
    put_found c.args.due c.args.ticks.now.items c.in-Ok.i (tick_at c.args.due c.args.node.index) found c.args.node.index

pub returns-in-Err-clause-ticks : goal.returns-in-Err-clause-ticks
returns-in-Err-clause-ticks c =
    let missing : IsMissing c.args.due c.args.ticks.now.items c.in-Err.i = rw c.deref.ensures.value at c.in-Err.ensures in
    let ok : is_ok c.insert.result ≡ true = c.insert.ensures.succeeds c.requires.room in
    c.insert.ensures.items ∙ ap (λ b. cond b (insert c.args.ticks.now.items c.in-Err.i (tick_at c.args.due c.args.node.index)) c.args.ticks.now.items) ok
    ∙ put_missing c.args.due c.args.ticks.now.items c.in-Err.i (tick_at c.args.due c.args.node.index) missing c.args.node.index
