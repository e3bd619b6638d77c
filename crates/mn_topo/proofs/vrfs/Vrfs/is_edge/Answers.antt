use Rattle.std.proofs.Common.{ap, ◌∙◌, ◌==◌}
use Rattle.std.specs.List.{list_any}
use Rattle.mn_topo.specs.VrfTable.{is_edge}
use Rattle.mn_topo.proofs.Edges.{edge_known}
use Rattle.mn_topo.proofs.vrfs.Vrfs.is_edge.Goals as goal

pub returns : goal.returns
returns c =
    c.is_among.ensures ∙ ap (list_any (λ edge. c.args.node == edge)) c.deref.ensures.value ∙ edge_known c.args.node _ _ c.self.invariant
    ∙ ap (λ table. is_edge table.vrfs c.args.node) c.self.view_is
