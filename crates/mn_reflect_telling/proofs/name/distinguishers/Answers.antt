use Rattle.std.proofs.Common.{◌<◌, length, subst}
use Rattle.mn_reflect_telling.proofs.Finds.{finds_more}
use Rattle.mn_reflect_telling.proofs.name.distinguishers.Goals as goal

pub loop-number-preserved : goal.loop-number-preserved
loop-number-preserved c =
    let at = c.loop-number in
    let updates = c.in_ok-insert.ensures.updates in
    let below : at.number < length c.args.topology.now.vrfs =
    subst (λ rs. at.number < length rs) c.vrfs-number-end.ensures c.loop-number-test.true in
    finds_more c.args.topology.now at.vrfs c.insert.new.self at.number below c.vrfs.result.now c.index-vrfs-number.result c.vrfs.ensures
    c.laws.ensures.vrfs.distinct at.invariant updates.1 updates.2
