use Rattle.std.proofs.Common.{◌≡◌, drop}
use Rattle.mn_toward.specs.Toward.{wired, as_hop, merged, nearest_over}
use Rattle.mn_toward.proofs.hops.nearest_of.Given as goal

-- what is left makes of what was found what all makes of nothing
abbrev pub invariant-loop-number : goal.invariant-loop-number
invariant-loop-number l =
    merged (as_hop l.best) (nearest_over (wired l.walks.ends.now) l.walks.up.now l.walks.tree.now.dists l.walks.node.0 (drop l.number-index l.links))
    ≡ nearest_over (wired l.walks.ends.now) l.walks.up.now l.walks.tree.now.dists l.walks.node.0 l.links
