use Rattle.std.proofs.Common.{ap, ◌∙◌, ◌==◌}
use Rattle.std.specs.List.{list_any}
use Rattle.mn_topo.specs.Nodes.{has_loopback}
use Rattle.mn_topo.proofs.NodeList.{has_mapped}
use Rattle.mn_topo.proofs.nodes.Nodes.has_loopback.Goals as goal

pub returns : goal.returns
returns c =
    c.is_loopback_of.ensures ∙ ap (list_any (λ node. c.args.loopback == node.loopback)) c.deref.ensures.value ∙ has_mapped c.args.loopback _
    ∙ ap (λ table. has_loopback table c.args.loopback) c.self.view_is
