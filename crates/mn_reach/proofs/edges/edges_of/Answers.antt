use Rattle.std.proofs.Common.{sym, ◌∙◌, ap, Vec, Global}
use Rattle.mn_base.specs.declared.numbers.NodeNo.{NodeNo}
use Rattle.mn_topo.specs.VrfTable.{is_edge}
use Rattle.mn_reach.specs.Plans.{numbers_of}
use Rattle.mn_reach.proofs.Finding.{one_edge, no_edge}
use Rattle.mn_reach.proofs.edges.edges_of.Goals as goal
use Rattle.mn_reach.proofs.edges.edges_of.Goals.{then-is_edge+in_ok-push, else-is_edge}

pub loop-number-preserved : goal.loop-number-preserved
loop-number-preserved c =
    elim c.if-is_edge.branch [
      | then-is_edge+in_ok-push w ↦
          one_edge (λ node. is_edge c.args.topology.now.vrfs node) c.loop-number.number c.loop-number.found.items c.if-is_edge.found.items
          c.loop-number.invariant (sym c.is_edge.ensures ∙ w.if-is_edge.true)
          (ap (λ (v : Vec NodeNo Global). v.items) w.found-is ∙ w.in_ok-push.ensures.items)
      | else-is_edge w ↦
          ap (λ (v : Vec NodeNo Global). numbers_of v.items) w.found-is
          ∙ no_edge (λ node. is_edge c.args.topology.now.vrfs node) c.loop-number.number c.loop-number.found.items c.loop-number.invariant
          (sym c.is_edge.ensures ∙ w.if-is_edge.false)
    ]
