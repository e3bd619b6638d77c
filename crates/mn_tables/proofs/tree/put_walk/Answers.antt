use Rattle.std.proofs.Common.{sym, ◌∙◌, inl, inr}
use Rattle.mn_tables.proofs.Telling.{tells_as}
use Rattle.mn_tables.proofs.Rows.{tree_row}
use Rattle.mn_tables.proofs.tree.put_walk.Goals as goal

pub returns-in-None : goal.returns-in-None
returns-in-None g c = λ view is_dist is_hop. c.put_unreached.ensures view (inl (sym is_dist ∙ c.in-None.is))

pub returns-in-None-hop : goal.returns-in-None-hop
returns-in-None-hop g c = λ view is_dist is_hop. c.put_unreached-in-None-hop.ensures view (inr (sym is_hop ∙ c.in-None-hop.is))

pub returns-in-Some-hop : goal.returns-in-Some-hop
returns-in-Some-hop g c = λ view is_dist is_hop. tells_as _ _ _ _ _ c.put_pieces.ensures
    (tree_row c.args.topology.now view c.args.walk.from.0 c.args.walk.to.0 c.in-Some.dist c.in-Some-hop.hop _ _ _ _
    c.node_name-from.ensures c.node_name-there.ensures c.digits-cost.ensures c.node_name-near.ensures
    (sym c.in-Some.is ∙ is_dist) (sym c.in-Some-hop.is ∙ is_hop))
