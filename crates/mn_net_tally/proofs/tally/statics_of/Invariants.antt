use Rattle.std.proofs.Common.{◌≡◌, ◌+◌, length, drop}
use Rattle.mn_topo.specs.SiteTable.{statics_of}
use Rattle.mn_net_tally.proofs.tally.statics_of.Given as goal

abbrev pub invariant-loop-site : goal.invariant-loop-site
invariant-loop-site l = l.statics + length (statics_of (drop l.site-index l.site-items)) ≡ length (statics_of l.site-items)
