use Rattle.std.proofs.Common.{◌∙◌, ap}
use Rattle.mn_linkdb.specs.PathTable.{PathTable, dist_at}
use Rattle.mn_way.proofs.Kept.{costs-are, costs-fit}
use Rattle.mn_way.proofs.ways.Ways.cost.Goals as goal

pub returns-clause-least : goal.returns-clause-least
returns-clause-least c = λ wiring over.
    let was = c.self.inside in
    let s = c.args.self.now in
    let m = c.tree.result.now in
    let n = c.args.node.0 in
    c.dist.ensures.value ∙ ap (λ (t : PathTable). dist_at t n) c.tree-2.ensures.value
    ∙ costs-are was.links was.at.items was.trees.items was.up.items was.ldp.items was.failed c.self.invariant s c.self.view_is c.args.edge m
    c.index.result.now c.requires.sound c.requires.edge (c.tree.ensures ∙ c.index.ensures) c.tree-2.ensures.least wiring over n c.requires.here

pub returns-clause-fits : goal.returns-clause-fits
returns-clause-fits c =
    let was = c.self.inside in
    let s = c.args.self.now in
    let m = c.tree.result.now in
    let n = c.args.node.0 in
    costs-fit was.links was.at.items was.trees.items was.up.items was.ldp.items was.failed c.self.invariant s c.self.view_is c.args.edge n c.dist.result
    (λ wiring over. c.dist.ensures.value ∙ ap (λ (t : PathTable). dist_at t n) c.tree-2.ensures.value
    ∙ costs-are was.links was.at.items was.trees.items was.up.items was.ldp.items was.failed c.self.invariant s c.self.view_is c.args.edge m
    c.index.result.now c.requires.sound c.requires.edge (c.tree.ensures ∙ c.index.ensures) c.tree-2.ensures.least wiring over n c.requires.here)
