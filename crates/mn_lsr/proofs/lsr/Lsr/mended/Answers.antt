use Rattle.mn_node.specs.Node.{view_in}
use Rattle.mn_lsr.specs.Parts.{wiring_in, node_in}
use Rattle.mn_lsr.proofs.Mended.{tree-of}
use Rattle.mn_lsr.proofs.lsr.Lsr.mended.Goals as goal

pub returns-clause-least : goal.returns-clause-least
returns-clause-least c = rw (← c.self.view_is) (λ ok.
    let p = c.self.inside.parts in
    tree-of (wiring_in p) (view_in (node_in p)) p.me.0 p.mended (c.self.invariant.parts ok).mended c.tree-tree.ensures.least)
