use Rattle.std.proofs.Common.{drop, ap, ◌∙◌, ◌+◌}
use Rattle.mn_toward.specs.Toward.{wired, as_hop, merged, nearest_over}
use Rattle.mn_toward.proofs.Nearest.{one-more}
use Rattle.mn_toward.proofs.hops.nearest_of.Goals as goal

pub loop-number-preserved : goal.loop-number-preserved
loop-number-preserved c =
    let w = wired c.args.walks.now.ends.now in
    let v = c.args.walks.now.up.now in
    let ds = c.args.walks.now.tree.now.dists in
    let n = c.args.walks.now.node.0 in
    let links = c.args.links.now in
    let i = c.loop-number.number-index in
    ap (λ o. merged o (nearest_over w v ds n (drop (i + 1) links))) c.with_link-best.ensures
    ∙ one-more w v ds n (as_hop c.loop-number.best) links i _ c.loop-number-test.true ∙ c.loop-number.invariant
