use Rattle.std.proofs.Common.{sym, subst}
use Rattle.mn_linkdb.specs.Trees.{IsTree}
use Rattle.mn_node.specs.Node.{view_in}
use Rattle.mn_lsr.specs.Parts.{wiring_in, node_in}
use Rattle.mn_lsr.proofs.Mended.{tree-of}
use Rattle.mn_lsr.proofs.lsr.Lsr.tree.Goals as goal

pub returns : goal.returns
returns c = rw (← c.self.view_is) (λ ok.
    let p = c.self.inside.parts in
    subst (λ t. IsTree (wiring_in p) (view_in (node_in p)) p.me.0 t) (sym c.tree.ensures.value)
    (tree-of (wiring_in p) (view_in (node_in p)) p.me.0 p.mended (c.self.invariant.parts ok).mended c.tree.ensures.least))
