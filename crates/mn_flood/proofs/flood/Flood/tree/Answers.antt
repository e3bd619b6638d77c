use Rattle.std.proofs.Common.{rules, ◌≡◌, ◌<◌, ◌∙◌, ap, sym, subst, length, [], IfOk}
use Rattle.mn_linkdb.specs.Trees.{IsTree}
use Rattle.mn_flood_laws.specs.Flood.{flooded}
use Rattle.mn_flood_laws.proofs.Quiet.{trees}
use Rattle.mn_flood.specs.Floods.{FloodNow}
use Rattle.mn_flood.proofs.Sounds.{if_ok_so}
use Rattle.mn_flood.proofs.flood.Flood.tree.Goals as goal

pub returns-clause-settled : goal.returns-clause-settled
returns-clause-settled c works quiet =
    let world = c.self.inside.world in
    let sound = c.self.invariant (ap (λ (f : FloodNow). f.failed) c.self.view_is ∙ works) in
    let none : world.world.flying ≡ [] = ap (λ (f : FloodNow). f.world.flying) c.self.view_is ∙ quiet in
    let there : c.args.node.0 < length world.wiring.loopbacks =
    subst (λ (f : FloodNow). c.args.node.0 < length f.wiring.loopbacks) (sym c.self.view_is) c.requires in
    let least : IfOk c.tree.result (IsTree world.wiring (flooded world.wiring world.world c.args.node.0) c.args.node.0) = search rules in
    subst (λ (f : FloodNow). IfOk c.tree.result (IsTree f.wiring f.world.up c.args.node.0)) c.self.view_is
    (if_ok_so c.tree.result (λ table h. trees world.wiring c.laws.ensures.wired.joins c.laws.ensures.wired.differ world.world sound.flood none c.args.node.0
    table there h) least)
