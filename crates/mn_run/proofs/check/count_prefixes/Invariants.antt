use Rattle.std.proofs.Common.{◌≡◌, ◌+◌, drop, length}
use Rattle.mn_topo.specs.SiteTable.{statics_of}
use Rattle.mn_run.proofs.check.count_prefixes.Given as goal

abbrev pub invariant-loop-site : goal.invariant-loop-site
invariant-loop-site l = l.count + length (statics_of (drop l.site-index l.sites)) ≡ length (statics_of l.sites)
