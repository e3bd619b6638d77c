use Rattle.std.proofs.Common.{◌≡◌, ◌≢◌, ◌∙◌, ap, sym, get_or}
use Rattle.mn_wiring.specs.Wiring.{Wiring}
use Rattle.mn_wiring.specs.Paths.{next}
use Rattle.mn_toward.specs.Toward.{as_hop}
use Rattle.mn_way.specs.Switched.{IsOver, edge_at}
use Rattle.mn_way.proofs.Kept.{root-is, hops-are, hops-there}
use Rattle.mn_way.proofs.Least.{none-here}
use Rattle.mn_way.proofs.ways.Ways.hop.Goals as goal

pub returns-then-node-edge-clause-hop : goal.returns-then-node-edge-clause-hop
returns-then-node-edge-clause-hop c = λ wiring over.
    let was = c.self.inside in
    let s = c.args.self.now in
    let m = c.index-tree.result.now in
    none-here wiring s.up c.args.node.0 (edge_at s c.args.edge)
    (c.if-node-edge.true ∙ c.edge.ensures
    ∙ root-is was.links was.at.items was.trees.items was.up.items was.ldp.items was.failed c.self.invariant s c.self.view_is c.args.edge m m
    c.requires.edge c.index-tree.ensures)

elsewhere : (c : goal.After-next_toward) → c.args.node.0 ≢ edge_at c.args.self.now c.args.edge
elsewhere c = λ same.
    let was = c.self.inside in
    let m = c.index-tree.result.now in
    c.if-node-edge.false
    (same ∙ sym (c.edge.ensures
    ∙ root-is was.links was.at.items was.trees.items was.up.items was.ldp.items was.failed c.self.invariant c.args.self.now c.self.view_is c.args.edge m m
    c.requires.edge c.index-tree.ensures))

hop-by : (c : goal.After-next_toward) → (wiring : Wiring) → IsOver wiring c.args.self.now
    → as_hop c.next_toward.result ≡ next wiring c.args.self.now.up c.args.node.0 (edge_at c.args.self.now c.args.edge)
hop-by c = λ wiring over.
    let was = c.self.inside in
    let s = c.args.self.now in
    let m = c.index-tree.result.now in
    c.next_toward.ensures
    ∙ hops-are was.links was.at.items was.trees.items was.up.items was.ldp.items was.failed c.self.invariant s c.self.view_is c.args.edge c.tree.result.now m
    c.requires.sound c.requires.edge (c.tree.ensures ∙ c.index-tree.ensures) c.tree-2.ensures.least c.args.node.0 c.requires.here (elsewhere c)
    c.as_slice.result.now c.deref.result.now c.tree-2.result.now c.as_slice-links.result.now _ (c.as_slice.ensures ∙ c.ends.ensures) c.deref.ensures.value
    c.tree-2.ensures.value (c.as_slice-links.ensures ∙ c.index.ensures ∙ ap (λ k. get_or was.at.items k c.index.result.now) c.from.ensures) wiring over

pub returns-clause-hop : goal.returns-clause-hop
returns-clause-hop c = hop-by c

pub returns-clause-there : goal.returns-clause-there
returns-clause-there c =
    let was = c.self.inside in
    hops-there was.links was.at.items was.trees.items was.up.items was.ldp.items was.failed c.self.invariant c.args.self.now c.self.view_is c.args.edge
    c.args.node.0 c.requires.here (elsewhere c) c.next_toward.result (hop-by c)
