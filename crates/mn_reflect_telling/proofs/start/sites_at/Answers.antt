use Rattle.std.proofs.Common.{◌≡◌, ◌≢◌, length, arith, sym, ◌∙◌, ap}
use Rattle.mn_ledger.specs.Places.{home_of}
use Rattle.mn_edges.specs.Start.{sites_before}
use Rattle.mn_edges.proofs.Starts.{sites_here, sites_away}
use Rattle.mn_reflect_telling.proofs.start.sites_at.Goals as goal
use Rattle.mn_reflect_telling.proofs.start.sites_at.Goals.{then-home_of-node, else-home_of-node}

pub loop-number-preserved : goal.loop-number-preserved
loop-number-preserved c =
    let t = c.args.topology.now in
    let k = c.loop-number.number in
    let was = c.loop-number.invariant.count in
    let bound = c.loop-number.invariant.bound in
    elim c.if-home_of-node.branch [
      | then-home_of-node w ↦
          let home : home_of t k ≡ c.args.node.0 = sym c.home_of.ensures.home ∙ w.if-home_of-node.true in
          let more = sites_here t c.args.node.0 k home in
          let count = w.count-is in
          record { count = omega (arith, was, more, count); bound = omega (arith, bound, count) }
      | else-home_of-node w ↦
          let apart : home_of t k ≢ c.args.node.0 = (λ e. w.if-home_of-node.false (c.home_of.ensures.home ∙ e)) in
          let same = sites_away t c.args.node.0 k apart in
          let count = w.count-is in
          record { count = omega (arith, was, same, count); bound = omega (arith, bound, count) }
    ]

pub returns : goal.returns
returns c =
    let t = c.args.topology.now in
    let sites = ap length c.sites-number-end.ensures in
    let done : c.loop-number.number ≡ length t.sites = omega (arith, sites) in
    c.loop-number.invariant.count ∙ ap (sites_before t c.args.node.0) done
