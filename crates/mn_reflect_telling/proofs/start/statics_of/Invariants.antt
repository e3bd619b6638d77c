use Rattle.std.proofs.Common.{◌≡◌, ◌+◌, drop, length}
use Rattle.mn_ledger.specs.Ledger.{statics_from, first_config}
use Rattle.mn_reflect_telling.proofs.start.statics_of.Given as goal

-- those of the sites to come make it all
abbrev pub invariant-loop-site : goal.invariant-loop-site
invariant-loop-site l = l.count + length (statics_from l.site-index (drop l.site-index l.topology.sites)) ≡ length (first_config l.topology).statics
