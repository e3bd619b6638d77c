use Rattle.std.proofs.Common.{◌≡◌, arith, length, ◌∙◌, ap, refl}
use Rattle.mn_edges.specs.Changes.{working}
use Rattle.mn_edges.specs.Start.{edge_below}
use Rattle.mn_edges.proofs.Starts.{edge_first, edge_whole}
use Rattle.mn_edges.proofs.start.first_edge.Goals as goal

pub loop-number-init : goal.loop-number-init
loop-number-init c = record { edge = c.in-Ok.ensures ∙ ap working (edge_first c.args.topology.now c.args.node.0); label = refl }

pub loop-number-preserved : goal.loop-number-preserved
loop-number-preserved c = record { edge = c.in_ok-label.ensures.edge; label = c.in_ok-label.ensures.next }

pub returns : goal.returns
returns c =
    let t = c.args.topology.now in
    let sites = ap length c.sites-number-end.ensures in
    let done : c.loop-number.number ≡ length t.sites = omega (arith, sites) in
    c.loop-number.invariant.edge ∙ ap (λ k. working (edge_below t c.args.node.0 k)) done ∙ ap working (edge_whole t c.args.node.0)
