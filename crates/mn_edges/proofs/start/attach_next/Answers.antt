use Rattle.std.proofs.Common.{◌≡◌, ◌≢◌, ◌+◌, arith, sym, ◌∙◌, ap}
use Rattle.mn_ledger.specs.Places.{home_of}
use Rattle.mn_pe.specs.Edge.{after_attach}
use Rattle.mn_pe.specs.Pe.{PeNow}
use Rattle.mn_edges.specs.Changes.{working}
use Rattle.mn_edges.proofs.Starts.{sites_here, sites_away, sites_few, edge_attached, edge_passed}
use Rattle.mn_edges.proofs.start.attach_next.Goals as goal

pub overflow_add-result : goal.overflow_add-result
overflow_add-result c = let few = sites_few c.args.topology.now c.args.node.0 c.args.site.0 in omega (arith, few)

pub returns-then-home_of-node : goal.returns-then-home_of-node
returns-then-home_of-node c =
    let apart : home_of c.args.topology.now c.args.site.0 ≢ c.args.node.0 = (λ e. c.if-home_of-node.true (c.home_of.ensures.home ∙ e)) in
    record {
      edge = c.requires.edge ∙ ap working (edge_passed c.args.topology.now c.args.node.0 c.args.site.0 apart);
      next = c.requires.label ∙ ap (λ n. 16 + n) (sym (sites_away c.args.topology.now c.args.node.0 c.args.site.0 apart));
    }

pub returns-in-Ok : goal.returns-in-Ok
returns-in-Ok c =
    let t = c.args.topology.now in
    let home : home_of t c.args.site.0 ≡ c.args.node.0 = sym c.home_of.ensures.home ∙ c.if-home_of-node.false in
    let more = sites_here t c.args.node.0 c.args.site.0 home in
    let label = c.requires.label in
    record {
      edge = c.in-Ok.ensures.ok ∙ ap (λ (p : PeNow). working (after_attach p.edge c.args.site.0 c.args.label)) c.requires.edge
          ∙ ap working (edge_attached t c.args.node.0 c.args.site.0 c.args.label home label);
      next = omega (arith, more, label);
    }
