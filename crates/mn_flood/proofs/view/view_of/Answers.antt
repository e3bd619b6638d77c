use Rattle.std.proofs.Common.{rules, ◌≤◌, length}
use Rattle.mn_flood.proofs.Views.{all_counted}
use Rattle.mn_flood.proofs.view.view_of.Goals as goal

pub returns-clause-up : goal.returns-clause-up
returns-clause-up c =
    let enough : length c.args.world.now.wiring.ends ≤ c.loop-number.number = search rules in
    all_counted c.args.world.now.wiring c.args.world.now.world c.args.node.0 c.loop-number.view.counts c.loop-number.number enough
    c.loop-number.invariant.counted
